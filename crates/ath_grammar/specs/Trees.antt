-- Values, and what each action makes of the newest: trees are made from their parts.
use Rattle.std.specs.Prelude.{ℕ, List, [], ◌∷◌, ◌++◌, Bool, true, false, not, Option, Some, None}
use Rattle.std.specs.List.{list_any}
use Rattle.ath_sorts.specs.declared.sorts.Sym.{Sym}
use Rattle.ath_syntax.specs.declared.place.Pos.{Pos}
use Rattle.ath_syntax.specs.declared.node.SortText.{SortText}
use Rattle.ath_syntax.specs.declared.node.SortText.TheVariants.{Name as sort_name, Var as sort_variable, Con as sort_con}
use Rattle.ath_syntax.specs.Places.{place}
use Rattle.ath_syntax.specs.Tree.{Pattern, any_pattern, name_pattern, string_pattern, list_pattern, list_of_pattern, app_pattern, some_pattern, Patterns, no_patterns, more_patterns, Binder, Phrase, name_at, variable_at, string_at, list_at, ascribe_at, apply_at, call_at, lambda_at, method_at, let_at, letrec_at, match_at, check_at, try_at, seq_at, assume_at, absurd_at, pick_any_at, pick_witness_at, induct_at, cases_at, conclude_at, Phrases, no_phrases, more_phrases, Bindings, no_bindings, more_bindings, Clauses, no_clauses, more_clauses, Branches, no_branches, more_branches, no_else, else_phrase, is_deduction, phrases_deduce, clauses_deduce, branches_deduce, Statement, domain_is, datatype_is, declare_is, define_is, define_fun_is, assert_is, load_is, phrase_is, DirectiveTree, directive_at, same_name, bound_names}
use Rattle.ath_grammar.specs.declared.lexeme.Lexeme.TheVariants as L
use Rattle.ath_grammar.specs.declared.action.Guard.{Guard}
use Rattle.ath_grammar.specs.declared.action.Guard.TheVariants.{Free, New}
use Rattle.ath_grammar.specs.declared.action.Action.{Action}
use Rattle.ath_grammar.specs.declared.action.Action.TheVariants as A
use Rattle.ath_grammar.specs.Tokens.{Placed, at}
use Rattle.ath_grammar.specs.Tables.{Algebra}

-- a constructor of a datatype, with the sorts of its arguments
abbrev pub Constructor : Type 0
Constructor = Sym × List SortText

pub data Value : Type 0 where
  a_place : Pos → Value
  a_name : Pos → Sym → Value
  a_variable : Pos → Sym → ℕ → Value
  a_text : Pos → List ℕ → Value
  a_sort : SortText → Value
  sorts : List SortText → Value
  a_pattern : Pattern → Value
  patterns : Patterns → Value
  names : List Sym → Value
  a_phrase : Phrase → Value
  phrases : Phrases → Value
  bindings : Bindings → Value
  clauses : Clauses → Value
  branches : Branches → Value
  -- the name of a sentence, where it has one
  label : Option Sym → Value
  binders : List Binder → Value
  constructors : List Constructor → Value
  -- the sort variables of a `declare`, where they are written
  parameters : Option (List Sym) → Value
  a_directive : DirectiveTree → Value

-- what is in a value, or something else
abbrev pub no_place : Pos
no_place = record { file = 0; line = 0; col = 0 }

abbrev pub no_name : Sym
no_name = record { 0 = 0 }

abbrev pub place_in : Value → Pos
place_in (a_place p) = p
place_in v = no_place

abbrev pub name_in : Value → Sym
name_in (a_name p n) = n
name_in v = no_name

abbrev pub text_in : Value → List ℕ
text_in (a_text p s) = s
text_in v = []

abbrev pub sort_in : Value → SortText
sort_in (a_sort s) = s
sort_in v = sort_name no_name

abbrev pub sorts_in : Value → List SortText
sorts_in (sorts ss) = ss
sorts_in v = []

abbrev pub pattern_in : Value → Pattern
pattern_in (a_pattern p) = p
pattern_in v = any_pattern

abbrev pub patterns_in : Value → Patterns
patterns_in (patterns ps) = ps
patterns_in v = no_patterns

abbrev pub names_in : Value → List Sym
names_in (names ns) = ns
names_in v = []

abbrev pub phrase_in : Value → Phrase
phrase_in (a_phrase x) = x
phrase_in v = name_at no_place no_name

abbrev pub phrases_in : Value → Phrases
phrases_in (phrases xs) = xs
phrases_in v = no_phrases

abbrev pub bindings_in : Value → Bindings
bindings_in (bindings bs) = bs
bindings_in v = no_bindings

abbrev pub clauses_in : Value → Clauses
clauses_in (clauses cs) = cs
clauses_in v = no_clauses

abbrev pub branches_in : Value → Branches
branches_in (branches bs) = bs
branches_in v = no_branches

abbrev pub label_in : Value → Option Sym
label_in (label n) = n
label_in v = None

abbrev pub binders_in : Value → List Binder
binders_in (binders bs) = bs
binders_in v = []

abbrev pub constructors_in : Value → List Constructor
constructors_in (constructors cs) = cs
constructors_in v = []

abbrev pub parameters_in : Value → Option (List Sym)
parameters_in (parameters vs) = vs
parameters_in v = None

-- a token's value as a phrase
abbrev pub named : Value → Phrase
named (a_name p n) = name_at p n
named v = name_at no_place no_name

abbrev pub variable : Option SortText → Value → Phrase
variable s (a_variable p x k) = variable_at p x k s
variable s v = name_at no_place no_name

abbrev pub string : Value → Phrase
string (a_text p s) = string_at p s
string v = name_at no_place no_name

-- lists with one more at the end
abbrev pub add_pattern : Patterns → Pattern → Patterns
add_pattern no_patterns p = more_patterns p no_patterns
add_pattern (more_patterns q qs) p = more_patterns q (add_pattern qs p)

abbrev pub add_phrase : Phrases → Phrase → Phrases
add_phrase no_phrases x = more_phrases x no_phrases
add_phrase (more_phrases y ys) x = more_phrases y (add_phrase ys x)

abbrev pub add_binding : Bindings → Sym → Phrase → Bindings
add_binding no_bindings n x = more_bindings n x no_bindings
add_binding (more_bindings m y bs) n x = more_bindings m y (add_binding bs n x)

abbrev pub add_clause : Clauses → Pattern → Phrase → Clauses
add_clause no_clauses p x = more_clauses p x no_clauses
add_clause (more_clauses q y cs) p x = more_clauses q y (add_clause cs p x)

abbrev pub add_branch : Branches → Phrase → Phrase → Branches
add_branch no_branches e x = more_branches e x no_branches
add_branch (more_branches c y bs) e x = more_branches c y (add_branch bs e x)

-- the newest values, from the newest on, and what is beneath them
abbrev pub v1 : List Value → Value
v1 [] = label None
v1 (v ∷ vs) = v

abbrev pub rest : List Value → List Value
rest [] = []
rest (v ∷ vs) = vs

abbrev pub rest2 : List Value → List Value
rest2 vs = rest (rest vs)

abbrev pub rest3 : List Value → List Value
rest3 vs = rest (rest2 vs)

abbrev pub rest4 : List Value → List Value
rest4 vs = rest (rest3 vs)

abbrev pub v2 : List Value → Value
v2 vs = v1 (rest vs)

abbrev pub v3 : List Value → Value
v3 vs = v1 (rest2 vs)

abbrev pub v4 : List Value → Value
v4 vs = v1 (rest3 vs)

abbrev pub v5 : List Value → Value
v5 vs = v1 (rest4 vs)

-- a directive at this place, which says this
abbrev pub says : Value → Statement → Value
says v s = a_directive (directive_at (place_in v) s)

abbrev pub act_on : Action → List Value → List Value
act_on A.Drop vs = rest vs
act_on A.Again vs = a_place (place_in (v1 vs)) ∷ a_place (place_in (v1 vs)) ∷ rest vs
act_on A.NoSorts vs = sorts [] ∷ vs
act_on A.AddSort vs = sorts (sorts_in (v2 vs) ++ (sort_in (v1 vs) ∷ [])) ∷ rest2 vs
act_on A.NameSort vs = a_sort (sort_name (name_in (v1 vs))) ∷ rest vs
act_on A.VariableSort vs = a_sort (sort_variable (name_in (v1 vs))) ∷ rest vs
act_on A.ConSort vs = a_sort (sort_con (name_in (v2 vs)) (sorts_in (v1 vs))) ∷ rest3 vs
act_on A.NoPatterns vs = patterns no_patterns ∷ vs
act_on A.AddPattern vs = patterns (add_pattern (patterns_in (v2 vs)) (pattern_in (v1 vs))) ∷ rest2 vs
act_on A.AnyPattern vs = a_pattern any_pattern ∷ rest vs
act_on A.NamePattern vs = a_pattern (name_pattern (name_in (v1 vs))) ∷ rest vs
act_on A.StringPattern vs = a_pattern (string_pattern (text_in (v1 vs))) ∷ rest vs
act_on A.ListPattern vs = a_pattern (list_pattern (patterns_in (v1 vs))) ∷ rest2 vs
act_on A.ListOfPattern vs = a_pattern (list_of_pattern (pattern_in (v2 vs)) (pattern_in (v1 vs))) ∷ rest3 vs
act_on A.SomePattern vs = a_pattern (some_pattern (name_in (v2 vs)) (name_in (v1 vs))) ∷ rest3 vs
act_on A.AppPattern vs = a_pattern (app_pattern (name_in (v2 vs)) (patterns_in (v1 vs))) ∷ rest3 vs
act_on A.NoNames vs = names [] ∷ vs
act_on A.OneName vs = names (name_in (v1 vs) ∷ []) ∷ rest vs
act_on A.AddName vs = names (names_in (v2 vs) ++ (name_in (v1 vs) ∷ [])) ∷ rest2 vs
act_on A.Name vs = a_phrase (named (v1 vs)) ∷ rest vs
act_on A.Variable vs = a_phrase (variable None (v1 vs)) ∷ rest vs
act_on A.SortedVariable vs = a_phrase (variable (Some (sort_in (v1 vs))) (v2 vs)) ∷ rest2 vs
act_on A.String vs = a_phrase (string (v1 vs)) ∷ rest vs
act_on A.NoPhrases vs = phrases no_phrases ∷ vs
act_on A.OnePhrase vs = phrases (more_phrases (phrase_in (v1 vs)) no_phrases) ∷ rest vs
act_on A.AddPhrase vs = phrases (add_phrase (phrases_in (v2 vs)) (phrase_in (v1 vs))) ∷ rest2 vs
act_on A.List vs = a_phrase (list_at (place_in (v2 vs)) (phrases_in (v1 vs))) ∷ rest2 vs
act_on A.Unwrap vs = a_phrase (phrase_in (v1 vs)) ∷ rest2 vs
act_on A.Ascribe vs = a_phrase (ascribe_at (place_in (v3 vs)) (phrase_in (v2 vs)) (sort_in (v1 vs))) ∷ rest3 vs
act_on A.Apply vs = a_phrase (apply_at (place_in (v3 vs)) (phrase_in (v2 vs)) (phrases_in (v1 vs))) ∷ rest3 vs
act_on A.Call vs = a_phrase (call_at (place_in (v3 vs)) (phrase_in (v2 vs)) (phrases_in (v1 vs))) ∷ rest3 vs
act_on A.Lambda vs = a_phrase (lambda_at (place_in (v3 vs)) (names_in (v2 vs)) (phrase_in (v1 vs))) ∷ rest3 vs
act_on A.Method vs = a_phrase (method_at (place_in (v3 vs)) (names_in (v2 vs)) (phrase_in (v1 vs))) ∷ rest3 vs
act_on A.NoBindings vs = bindings no_bindings ∷ vs
act_on A.AddBinding vs = bindings (add_binding (bindings_in (v3 vs)) (name_in (v2 vs)) (phrase_in (v1 vs))) ∷ rest3 vs
act_on A.Let vs = a_phrase (let_at (place_in (v3 vs)) (bindings_in (v2 vs)) (phrase_in (v1 vs))) ∷ rest3 vs
act_on A.LetRec vs = a_phrase (letrec_at (place_in (v3 vs)) (bindings_in (v2 vs)) (phrase_in (v1 vs))) ∷ rest3 vs
act_on A.NoClauses vs = clauses no_clauses ∷ vs
act_on A.AddClause vs = clauses (add_clause (clauses_in (v3 vs)) (pattern_in (v2 vs)) (phrase_in (v1 vs))) ∷ rest3 vs
act_on A.Match vs = a_phrase (match_at (place_in (v3 vs)) (phrase_in (v2 vs)) (clauses_in (v1 vs))) ∷ rest3 vs
act_on A.Induct vs = a_phrase (induct_at (place_in (v3 vs)) (phrase_in (v2 vs)) (clauses_in (v1 vs))) ∷ rest3 vs
act_on A.Cases vs = a_phrase (cases_at (place_in (v3 vs)) (phrase_in (v2 vs)) (clauses_in (v1 vs))) ∷ rest3 vs
act_on A.NoBranches vs = branches no_branches ∷ vs
act_on A.AddBranch vs = branches (add_branch (branches_in (v3 vs)) (phrase_in (v2 vs)) (phrase_in (v1 vs))) ∷ rest3 vs
act_on A.Check vs = a_phrase (check_at (place_in (v2 vs)) (branches_in (v1 vs)) no_else) ∷ rest2 vs
act_on A.CheckElse vs = a_phrase (check_at (place_in (v3 vs)) (branches_in (v2 vs)) (else_phrase (phrase_in (v1 vs)))) ∷ rest3 vs
act_on A.Try vs = a_phrase (try_at (place_in (v2 vs)) (phrases_in (v1 vs))) ∷ rest2 vs
act_on A.Sequence vs = a_phrase (seq_at (place_in (v2 vs)) (phrases_in (v1 vs))) ∷ rest2 vs
act_on A.Named vs = label (Some (name_in (v1 vs))) ∷ rest vs
act_on A.Unnamed vs = v1 vs ∷ label None ∷ rest vs
act_on A.Assume vs = a_phrase (assume_at (place_in (v4 vs)) (label_in (v3 vs)) (phrase_in (v2 vs)) (phrase_in (v1 vs))) ∷ rest4 vs
act_on A.Absurd vs = a_phrase (absurd_at (place_in (v4 vs)) (label_in (v3 vs)) (phrase_in (v2 vs)) (phrase_in (v1 vs))) ∷ rest4 vs
act_on A.Conclude vs = a_phrase (conclude_at (place_in (v4 vs)) (label_in (v3 vs)) (phrase_in (v2 vs)) (phrase_in (v1 vs))) ∷ rest4 vs
act_on A.NoBinders vs = binders [] ∷ vs
act_on A.AddBinder vs = v1 vs ∷ binders (binders_in (v3 vs) ++ ((name_in (v2 vs), None) ∷ [])) ∷ rest3 vs
act_on A.AddSortedBinder vs = binders (binders_in (v3 vs) ++ ((name_in (v2 vs), Some (sort_in (v1 vs))) ∷ [])) ∷ rest3 vs
act_on A.PickAny vs = a_phrase (pick_any_at (place_in (v3 vs)) (binders_in (v2 vs)) (phrase_in (v1 vs))) ∷ rest3 vs
act_on A.PickWitness vs = a_phrase (pick_witness_at (place_in (v4 vs)) (name_in (v3 vs)) (phrase_in (v2 vs)) (phrase_in (v1 vs))) ∷ rest4 vs
act_on A.Domain vs = says (v3 vs) (domain_is (name_in (v2 vs)) (names_in (v1 vs))) ∷ rest3 vs
act_on A.NoConstructors vs = constructors [] ∷ vs
act_on A.AddConstructor vs = constructors (constructors_in (v3 vs) ++ ((name_in (v2 vs), sorts_in (v1 vs)) ∷ [])) ∷ rest3 vs
act_on A.Datatype vs = says (v4 vs) (datatype_is (name_in (v3 vs)) (names_in (v2 vs)) (constructors_in (v1 vs))) ∷ rest4 vs
act_on A.NoParameters vs = parameters None ∷ vs
act_on A.Parameters vs = parameters (Some (names_in (v1 vs))) ∷ rest3 vs
act_on A.NoArguments vs = v1 vs ∷ sorts [] ∷ rest vs
act_on A.Declare vs = says (v5 vs) (declare_is (names_in (v4 vs)) (parameters_in (v3 vs)) (sorts_in (v2 vs)) (sort_in (v1 vs))) ∷ rest (rest4 vs)
act_on A.Define vs = says (v3 vs) (define_is (name_in (v2 vs)) (phrase_in (v1 vs))) ∷ rest3 vs
act_on A.DefineFun vs = says (v4 vs) (define_fun_is (name_in (v3 vs)) (names_in (v2 vs)) (phrase_in (v1 vs))) ∷ rest4 vs
act_on A.Assert vs = says (v3 vs) (assert_is (label_in (v2 vs)) false (phrase_in (v1 vs))) ∷ rest3 vs
act_on A.AssertClosed vs = says (v3 vs) (assert_is (label_in (v2 vs)) true (phrase_in (v1 vs))) ∷ rest3 vs
act_on A.Load vs = says (v2 vs) (load_is (text_in (v1 vs))) ∷ rest2 vs
act_on A.Say vs = a_directive (directive_at (place (phrase_in (v1 vs))) (phrase_is (phrase_in (v1 vs)))) ∷ rest vs
act_on A.SayAt vs = says (v2 vs) (phrase_is (phrase_in (v1 vs))) ∷ rest2 vs

-- what a token leaves: its name, number or text, or the place of what it begins
abbrev pub saved : Placed → List Value → List Value
saved (at p (L.Word w n)) vs = a_name p n ∷ vs
saved (at p (L.Wild n)) vs = a_name p n ∷ vs
saved (at p (L.SomeOf n)) vs = a_name p n ∷ vs
saved (at p (L.Variable x k)) vs = a_variable p x k ∷ vs
saved (at p (L.SortVariable n)) vs = a_name p n ∷ vs
saved (at p (L.Text s)) vs = a_text p s ∷ vs
saved (at p (L.Opener o)) vs = a_place p ∷ vs
saved (at p (L.Directive d)) vs = a_place p ∷ vs
saved (at p (L.Mark m)) vs = vs

-- the kind of the last that was bound
abbrev pub last_deduces : Bool → Bindings → Bool
last_deduces d no_bindings = d
last_deduces d (more_bindings n x bs) = last_deduces (is_deduction x) bs

-- the kind of the newest value: whether it is a deduction
abbrev pub deduces : Value → Bool
deduces (a_phrase x) = is_deduction x
deduces (phrases xs) = phrases_deduce xs
deduces (bindings bs) = last_deduces false bs
deduces (clauses cs) = clauses_deduce cs
deduces (branches bs) = branches_deduce bs
deduces v = false

-- names that stand already where a new one must differ
abbrev pub seen : Value → List Sym
seen (names ns) = ns
seen (bindings bs) = bound_names bs
seen v = []

abbrev pub name_of : Placed → Sym
name_of (at p (L.Word w n)) = n
name_of (at p (L.SortVariable n)) = n
name_of t = no_name

abbrev pub may_stand : Guard → Placed → List Value → Bool
may_stand Free t vs = true
may_stand New t vs = not (list_any (same_name (name_of t)) (seen (v1 vs)))

abbrev pub trees : Algebra
trees = record { State = List Value; save = saved; act = act_on; kind = λ vs. deduces (v1 vs); allows = may_stand }
