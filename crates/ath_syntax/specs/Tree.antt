-- Phrases, patterns and directives as trees, each phrase with its place, and the kind of a phrase.
use Rattle.std.specs.Prelude.{ℕ, ◌==◌, List, [], ◌∷◌, Bool, true, false, Option}
use Rattle.ath_sorts.specs.declared.sorts.Sym.{Sym}
use Rattle.ath_syntax.specs.declared.place.Pos.{Pos}
use Rattle.ath_syntax.specs.declared.node.SortText.{SortText}

mutual
  pub data Pattern : Type 0 where
    any_pattern : Pattern
    name_pattern : Sym → Pattern
    string_pattern : List ℕ → Pattern
    list_pattern : Patterns → Pattern
    list_of_pattern : Pattern → Pattern → Pattern
    app_pattern : Sym → Patterns → Pattern
    some_pattern : Sym → Sym → Pattern

  pub data Patterns : Type 0 where
    no_patterns : Patterns
    more_patterns : Pattern → Patterns → Patterns

-- a name of `pick-any` with the sort that may be written behind it
abbrev pub Binder : Type 0
Binder = Sym × Option SortText

mutual
  pub data Phrase : Type 0 where
    name_at : Pos → Sym → Phrase
    variable_at : Pos → Sym → ℕ → Option SortText → Phrase
    string_at : Pos → List ℕ → Phrase
    list_at : Pos → Phrases → Phrase
    ascribe_at : Pos → Phrase → SortText → Phrase
    apply_at : Pos → Phrase → Phrases → Phrase
    call_at : Pos → Phrase → Phrases → Phrase
    lambda_at : Pos → List Sym → Phrase → Phrase
    method_at : Pos → List Sym → Phrase → Phrase
    let_at : Pos → Bindings → Phrase → Phrase
    letrec_at : Pos → Bindings → Phrase → Phrase
    match_at : Pos → Phrase → Clauses → Phrase
    check_at : Pos → Branches → Otherwise → Phrase
    try_at : Pos → Phrases → Phrase
    seq_at : Pos → Phrases → Phrase
    assume_at : Pos → Option Sym → Phrase → Phrase → Phrase
    absurd_at : Pos → Option Sym → Phrase → Phrase → Phrase
    pick_any_at : Pos → List Binder → Phrase → Phrase
    pick_witness_at : Pos → Sym → Phrase → Phrase → Phrase
    induct_at : Pos → Phrase → Clauses → Phrase
    cases_at : Pos → Phrase → Clauses → Phrase
    conclude_at : Pos → Option Sym → Phrase → Phrase → Phrase

  pub data Phrases : Type 0 where
    no_phrases : Phrases
    more_phrases : Phrase → Phrases → Phrases

  pub data Bindings : Type 0 where
    no_bindings : Bindings
    more_bindings : Sym → Phrase → Bindings → Bindings

  pub data Clauses : Type 0 where
    no_clauses : Clauses
    more_clauses : Pattern → Phrase → Clauses → Clauses

  -- the clauses of `check`
  pub data Branches : Type 0 where
    no_branches : Branches
    more_branches : Phrase → Phrase → Branches → Branches

  pub data Otherwise : Type 0 where
    no_else : Otherwise
    else_phrase : Phrase → Otherwise

abbrev pub same_name : Sym → Sym → Bool
same_name x y = x.0 == y.0

abbrev pub bound_names : Bindings → List Sym
bound_names no_bindings = []
bound_names (more_bindings n x bs) = n ∷ bound_names bs

-- whether a phrase is a deduction; the others are expressions
abbrev mutual
  pub is_deduction : Phrase → Bool
  is_deduction (name_at p n) = false
  is_deduction (variable_at p x k s) = false
  is_deduction (string_at p s) = false
  is_deduction (list_at p xs) = false
  is_deduction (ascribe_at p x s) = false
  is_deduction (apply_at p f xs) = false
  is_deduction (call_at p f xs) = true
  is_deduction (lambda_at p xs x) = false
  is_deduction (method_at p xs x) = false
  is_deduction (let_at p bs x) = is_deduction x
  is_deduction (letrec_at p bs x) = is_deduction x
  is_deduction (match_at p x cs) = clauses_deduce cs
  is_deduction (check_at p bs x) = branches_deduce bs
  is_deduction (try_at p xs) = phrases_deduce xs
  is_deduction (seq_at p xs) = true
  is_deduction (assume_at p n x y) = true
  is_deduction (absurd_at p n x y) = true
  is_deduction (pick_any_at p ns x) = true
  is_deduction (pick_witness_at p n x y) = true
  is_deduction (induct_at p x cs) = true
  is_deduction (cases_at p x cs) = true
  is_deduction (conclude_at p n x y) = true

  -- the kind of the alternatives is that of the first
  pub phrases_deduce : Phrases → Bool
  phrases_deduce no_phrases = false
  phrases_deduce (more_phrases x xs) = is_deduction x

  pub clauses_deduce : Clauses → Bool
  clauses_deduce no_clauses = false
  clauses_deduce (more_clauses p x cs) = is_deduction x

  pub branches_deduce : Branches → Bool
  branches_deduce no_branches = false
  branches_deduce (more_branches e x bs) = is_deduction x

pub data Statement : Type 0 where
  domain_is : Sym → List Sym → Statement
  datatype_is : Sym → List Sym → List (Sym × List SortText) → Statement
  declare_is : List Sym → Option (List Sym) → List SortText → SortText → Statement
  define_is : Sym → Phrase → Statement
  define_fun_is : Sym → List Sym → Phrase → Statement
  assert_is : Option Sym → Bool → Phrase → Statement
  load_is : List ℕ → Statement
  phrase_is : Phrase → Statement

-- a directive: its place, and what it says
pub data DirectiveTree : Type 0 where
  directive_at : Pos → Statement → DirectiveTree
