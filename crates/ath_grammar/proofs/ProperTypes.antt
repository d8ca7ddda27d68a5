-- What is known of values while a directive is read, where kinds are told apart: parts are proper and of kinds that were
-- wanted, names differ where they must, and values weigh no more than the tokens that were read.
use Rattle.std.proofs.Common.{◌≡◌, ℕ, ◌+◌, ◌≤◌, ◌<◌, List, [], ◌∷◌, ◌++◌, length, Bool, true, false, not, Option, Some, None, if◌then◌else◌}
use Rattle.std.specs.List.{IsDistinct, list_any, filter}
use Rattle.ath_sorts.specs.declared.sorts.Sym.{Sym}
use Rattle.ath_syntax.specs.Fits.{IsSomeWord}
use Rattle.ath_syntax.specs.Proper.{ProperPattern, ProperPatterns, Proper, ProperPhrases, ProperBindings, ProperClosures, ProperClauses, ProperBranches, ProperDirective, phrases_count, bindings_count, clauses_count, clauses_patterns, branches_count, bound_kind, is_closure}
use Rattle.ath_syntax.specs.Size.{pattern_size, patterns_size}
use Rattle.ath_syntax.specs.Tree.{no_bindings, no_clauses, no_branches, is_deduction, phrases_deduce, clauses_deduce, branches_deduce, same_name, bound_names}
use Rattle.ath_grammar.specs.declared.class.Class.{Class}
use Rattle.ath_grammar.specs.declared.class.Class.TheVariants as C
use Rattle.ath_grammar.specs.declared.symbol.Symbol.{Symbol}
use Rattle.ath_grammar.specs.declared.symbol.Symbol.TheVariants as S
use Rattle.ath_grammar.specs.declared.action.Action.{Action}
use Rattle.ath_grammar.specs.declared.action.Action.TheVariants as A
use Rattle.ath_grammar.specs.declared.action.Guard.{Guard}
use Rattle.ath_grammar.specs.declared.action.Guard.TheVariants.{Free, New}
use Rattle.ath_grammar.specs.declared.item.Want.{Want}
use Rattle.ath_grammar.specs.declared.item.Want.TheVariants.{Any, Only}
use Rattle.ath_grammar.specs.declared.item.Rule.TheVariants.{Same, AsTop, Bound, After}
use Rattle.ath_grammar.specs.declared.item.Attr.{Attr}
use Rattle.ath_grammar.specs.declared.item.Attr.TheVariants.{Is, Given}
use Rattle.ath_grammar.specs.declared.item.Item.{Item}
use Rattle.ath_grammar.specs.declared.item.Item.TheVariants as I
use Rattle.ath_grammar.specs.Tables.{Row, none, take, skip, begin_as, both, same_kind, fits, bound, after, told_all}
use Rattle.ath_grammar.specs.Trees as V
use Rattle.ath_grammar.specs.Trees.{Value, name_in, names_in, pattern_in, patterns_in, phrase_in, phrases_in, bindings_in, clauses_in, branches_in, binders_in, deduces, seen, v1, rest}

pub data Ty : Type 0 where
  -- anything, and what weighs something: a place, a name, a variable or a text
  plain : Ty
  thing : Ty
  -- a name that isn't among those of the value beneath, `_`, and one of the words `some-..`
  fresh : Ty
  wild : Ty
  some_word : Ty
  a_pattern : Ty
  patterns : Ty
  names : Ty
  params : Ty
  binders : Ty
  a_phrase : Want → Ty
  closure : Ty
  -- phrases of which each is wanted, and one phrase or more of the kind of the first
  phrases : Want → Ty
  some_phrases : Want → Ty
  -- the bindings of a `let` whose body this is, behind the last of them and later, and those of a `letrec`
  unbound : Ty
  added : Want → Ty
  bindings : Want → Ty
  closures : Ty
  some_closures : Ty
  unmatched : Ty
  clauses : Want → Ty
  unchecked : Ty
  branches : Want → Ty
  a_directive : Ty

abbrev pub Tys : Type 0
Tys = List Ty

abbrev pub size : Value → ℕ
size (V.a_place p) = 1
size (V.a_name p n) = 1
size (V.a_variable p x k) = 1
size (V.a_text p s) = 1
size (V.a_pattern p) = pattern_size p
size (V.patterns ps) = patterns_size ps
size (V.names ns) = length ns
size (V.a_phrase x) = 1
size (V.phrases xs) = phrases_count xs
size (V.bindings bs) = bindings_count bs + bindings_count bs
size (V.clauses cs) = clauses_count cs + patterns_size (clauses_patterns cs)
size (V.branches bs) = branches_count bs + branches_count bs
size (V.binders bs) = length bs
size v = 0

abbrev pub weight : List Value → ℕ
weight [] = 0
weight (v ∷ vs) = size v + weight vs

abbrev pub wanted_kind : Want → Option Bool
wanted_kind Any = None
wanted_kind (Only k) = Some k

abbrev pub others : Sym → List Sym → List Sym
others w ns = filter (λ n. not (same_name w n)) ns

abbrev pub IsProperDirective : Value → Type 0
IsProperDirective (V.a_directive d) = ProperDirective d
IsProperDirective v = Unit {0}

module _ (w₀ : Sym) where
  -- of a value with these beneath it; the name is that of `_`
  abbrev pub Fits : Ty → Value → List Value → Type 0
  Fits plain v vs = Unit {0}
  Fits thing v vs = 1 ≤ size v
  Fits fresh v vs = (1 ≤ size v) × (list_any (same_name (name_in v)) (seen (v1 vs)) ≡ false)
  Fits wild v vs = (1 ≤ size v) × ((name_in v).0 ≡ w₀.0)
  Fits some_word v vs = (1 ≤ size v) × IsSomeWord (name_in v)
  Fits a_pattern v vs = ProperPattern (pattern_in v) × (pattern_size (pattern_in v) ≤ size v)
  Fits patterns v vs = ProperPatterns (patterns_in v) × (patterns_size (patterns_in v) ≤ size v)
  Fits names v vs = length (names_in v) ≤ size v
  Fits params v vs = (length (names_in v) ≤ size v) × (seen v ≡ names_in v) × IsDistinct same_name (others w₀ (names_in v))
  Fits binders v vs = length (binders_in v) ≤ size v
  Fits (a_phrase w) v vs = (1 ≤ size v) × Proper (phrase_in v) × (fits w (Only (is_deduction (phrase_in v))) ≡ true) × (deduces v ≡ is_deduction (phrase_in v))
  Fits closure v vs = (1 ≤ size v) × Proper (phrase_in v) × (is_deduction (phrase_in v) ≡ false) × (deduces v ≡ is_deduction (phrase_in v)) × (is_closure (phrase_in v) ≡ true)
  Fits (phrases w) v vs = (phrases_count (phrases_in v) ≤ size v) × ProperPhrases (wanted_kind w) (phrases_in v)
  Fits (some_phrases w) v vs = (phrases_count (phrases_in v) ≤ size v) × (0 < phrases_count (phrases_in v)) × ProperPhrases (Some (phrases_deduce (phrases_in v))) (phrases_in v) × (fits w (Only (phrases_deduce (phrases_in v))) ≡ true) × (deduces v ≡ phrases_deduce (phrases_in v))
  Fits unbound v vs = (bindings_in v ≡ no_bindings) × (seen v ≡ [])
  Fits (added w) v vs = (bindings_count (bindings_in v) + bindings_count (bindings_in v) ≤ size v) × (0 < bindings_count (bindings_in v)) × (deduces v ≡ true → fits w (Only true) ≡ true) × ((d : Bool) → fits (after w (deduces v)) (Only d) ≡ true → ProperBindings (bound_kind d) (bindings_in v))
  Fits (bindings w) v vs = (bindings_count (bindings_in v) + bindings_count (bindings_in v) ≤ size v) × (0 < bindings_count (bindings_in v)) × ((d : Bool) → fits w (Only d) ≡ true → ProperBindings (bound_kind d) (bindings_in v))
  Fits closures v vs = (bindings_count (bindings_in v) + bindings_count (bindings_in v) ≤ size v) × (seen v ≡ bound_names (bindings_in v)) × ProperClosures (bindings_in v) × IsDistinct same_name (bound_names (bindings_in v))
  Fits some_closures v vs = (bindings_count (bindings_in v) + bindings_count (bindings_in v) ≤ size v) × (seen v ≡ bound_names (bindings_in v)) × ProperClosures (bindings_in v) × IsDistinct same_name (bound_names (bindings_in v)) × (0 < bindings_count (bindings_in v))
  Fits unmatched v vs = clauses_in v ≡ no_clauses
  Fits (clauses w) v vs = (clauses_count (clauses_in v) + patterns_size (clauses_patterns (clauses_in v)) ≤ size v) × (0 < clauses_count (clauses_in v)) × ProperClauses (clauses_deduce (clauses_in v)) (clauses_in v) × (fits w (Only (clauses_deduce (clauses_in v))) ≡ true) × (deduces v ≡ clauses_deduce (clauses_in v))
  Fits unchecked v vs = branches_in v ≡ no_branches
  Fits (branches w) v vs = (branches_count (branches_in v) + branches_count (branches_in v) ≤ size v) × (0 < branches_count (branches_in v)) × ProperBranches (branches_deduce (branches_in v)) (branches_in v) × (fits w (Only (branches_deduce (branches_in v))) ≡ true) × (deduces v ≡ branches_deduce (branches_in v))
  Fits a_directive v vs = IsProperDirective v

  -- of the newest values
  abbrev pub All : Tys → List Value → Type 0
  All [] vs = Unit {0}
  All (t ∷ σ) vs = Fits t (v1 vs) (rest vs) × All σ (rest vs)

-- whether one phrase's kind is also the other's
abbrev pub le : Want → Want → Bool
le w Any = true
le Any (Only k) = false
le (Only j) (Only k) = same_kind j k

-- what is of the first type is of the second
abbrev pub sub : Ty → Ty → Bool
sub t plain = true
sub thing thing = true
sub fresh thing = true
sub fresh fresh = true
sub wild thing = true
sub wild wild = true
sub some_word thing = true
sub some_word some_word = true
sub a_pattern a_pattern = true
sub patterns patterns = true
sub names names = true
sub params names = true
sub params params = true
sub binders binders = true
sub (a_phrase w) (a_phrase v) = le w v
sub closure (a_phrase v) = le (Only false) v
sub closure closure = true
sub (phrases w) (phrases v) = le w v
sub (some_phrases w) (phrases v) = le w v
sub (some_phrases w) (some_phrases v) = le w v
sub unbound unbound = true
sub unbound closures = true
sub (added Any) (added Any) = true
sub (added Any) (added (Only true)) = true
sub (added (Only false)) (added (Only false)) = true
sub (added (Only true)) (added (Only true)) = true
sub (bindings (Only false)) (bindings (Only false)) = true
sub (bindings (Only true)) (bindings (Only true)) = true
sub (bindings Any) (bindings v) = true
sub closures closures = true
sub some_closures closures = true
sub some_closures some_closures = true
sub unmatched unmatched = true
sub (clauses w) (clauses v) = le w v
sub unchecked unchecked = true
sub (branches w) (branches v) = le w v
sub a_directive a_directive = true
sub t u = false

-- what an action takes, the newest first, and what it leaves
pub record Effect : Type 0 where
  pub takes : Tys
  pub leaves : Tys

abbrev pub of : Tys → Tys → Effect
of before behind = record { takes = before; leaves = behind }

abbrev pub E : Want
E = Only false

abbrev pub D : Want
D = Only true

-- for each want, and for each kind
abbrev each : (Want → Effect) → List Effect
each f = f E ∷ f D ∷ f Any ∷ []

abbrev kinds : (Want → Effect) → List Effect
kinds f = f E ∷ f D ∷ []

abbrev one : Tys → Tys → List Effect
one before behind = of before behind ∷ []

abbrev binds : Want → List Effect
binds w = of (a_phrase (bound w) ∷ thing ∷ unbound ∷ []) (added w ∷ []) ∷ of (a_phrase (bound w) ∷ thing ∷ bindings w ∷ []) (added w ∷ []) ∷ []

abbrev pub effects : Action → List Effect
effects A.Drop = one (plain ∷ []) []
effects A.Again = []
effects A.NoSorts = one [] (plain ∷ [])
effects A.AddSort = one (plain ∷ plain ∷ []) (plain ∷ [])
effects A.NameSort = one (plain ∷ []) (plain ∷ [])
effects A.VariableSort = one (plain ∷ []) (plain ∷ [])
effects A.ConSort = one (plain ∷ plain ∷ plain ∷ []) (plain ∷ [])
effects A.NoPatterns = one [] (patterns ∷ [])
effects A.AddPattern = one (a_pattern ∷ patterns ∷ []) (patterns ∷ [])
effects A.AnyPattern = one (thing ∷ []) (a_pattern ∷ [])
effects A.NamePattern = one (thing ∷ []) (a_pattern ∷ [])
effects A.StringPattern = one (thing ∷ []) (a_pattern ∷ [])
effects A.ListPattern = one (patterns ∷ thing ∷ []) (a_pattern ∷ [])
effects A.ListOfPattern = one (a_pattern ∷ a_pattern ∷ thing ∷ []) (a_pattern ∷ [])
effects A.SomePattern = one (thing ∷ some_word ∷ thing ∷ []) (a_pattern ∷ [])
effects A.AppPattern = one (patterns ∷ thing ∷ thing ∷ []) (a_pattern ∷ [])
effects A.NoNames = one [] (params ∷ [])
effects A.OneName = one (thing ∷ []) (names ∷ [])
effects A.AddName = of (fresh ∷ params ∷ []) (params ∷ []) ∷ of (wild ∷ params ∷ []) (params ∷ []) ∷ of (thing ∷ names ∷ []) (names ∷ []) ∷ []
effects A.Name = one (thing ∷ []) (a_phrase E ∷ [])
effects A.Variable = one (thing ∷ []) (a_phrase E ∷ [])
effects A.SortedVariable = one (plain ∷ thing ∷ []) (a_phrase E ∷ [])
effects A.String = one (thing ∷ []) (a_phrase E ∷ [])
effects A.NoPhrases = one [] (phrases E ∷ [])
effects A.OnePhrase = each (λ w. of (a_phrase w ∷ []) (some_phrases w ∷ []))
effects A.AddPhrase = kinds (λ w. of (a_phrase w ∷ some_phrases w ∷ []) (some_phrases w ∷ [])) ++ each (λ w. of (a_phrase w ∷ phrases w ∷ []) (phrases w ∷ []))
effects A.List = one (phrases E ∷ thing ∷ []) (a_phrase E ∷ [])
effects A.Unwrap = of (closure ∷ plain ∷ []) (closure ∷ []) ∷ each (λ w. of (a_phrase w ∷ plain ∷ []) (a_phrase w ∷ []))
effects A.Ascribe = one (plain ∷ a_phrase E ∷ plain ∷ []) (a_phrase E ∷ [])
effects A.Apply = one (phrases E ∷ a_phrase E ∷ thing ∷ []) (a_phrase E ∷ [])
effects A.Call = one (phrases Any ∷ a_phrase E ∷ thing ∷ []) (a_phrase D ∷ [])
effects A.Lambda = one (a_phrase E ∷ params ∷ thing ∷ []) (closure ∷ [])
effects A.Method = one (a_phrase D ∷ params ∷ thing ∷ []) (closure ∷ [])
effects A.NoBindings = one [] (unbound ∷ [])
effects A.AddBinding = of (closure ∷ fresh ∷ closures ∷ []) (some_closures ∷ []) ∷ (binds E ++ (binds Any ++ binds D))
effects A.Let = each (λ w. of (a_phrase w ∷ bindings w ∷ thing ∷ []) (a_phrase w ∷ []))
effects A.LetRec = each (λ w. of (a_phrase w ∷ some_closures ∷ thing ∷ []) (a_phrase w ∷ []))
effects A.NoClauses = one [] (unmatched ∷ [])
effects A.AddClause = kinds (λ w. of (a_phrase w ∷ a_pattern ∷ clauses w ∷ []) (clauses w ∷ [])) ++ each (λ w. of (a_phrase w ∷ a_pattern ∷ unmatched ∷ []) (clauses w ∷ []))
effects A.Match = each (λ w. of (clauses w ∷ a_phrase E ∷ thing ∷ []) (a_phrase w ∷ []))
effects A.Induct = one (clauses D ∷ a_phrase E ∷ thing ∷ []) (a_phrase D ∷ [])
effects A.Cases = one (clauses D ∷ a_phrase E ∷ thing ∷ []) (a_phrase D ∷ [])
effects A.NoBranches = one [] (unchecked ∷ [])
effects A.AddBranch = kinds (λ w. of (a_phrase w ∷ a_phrase E ∷ branches w ∷ []) (branches w ∷ [])) ++ each (λ w. of (a_phrase w ∷ a_phrase E ∷ unchecked ∷ []) (branches w ∷ []))
effects A.Check = each (λ w. of (branches w ∷ thing ∷ []) (a_phrase w ∷ []))
effects A.CheckElse = kinds (λ w. of (a_phrase w ∷ branches w ∷ thing ∷ []) (a_phrase w ∷ []))
effects A.Try = each (λ w. of (some_phrases w ∷ thing ∷ []) (a_phrase w ∷ []))
effects A.Sequence = one (some_phrases D ∷ thing ∷ []) (a_phrase D ∷ [])
effects A.Named = one (thing ∷ []) (plain ∷ [])
effects A.Unnamed = one (a_phrase E ∷ []) (a_phrase E ∷ plain ∷ [])
effects A.Assume = one (a_phrase D ∷ a_phrase E ∷ plain ∷ thing ∷ []) (a_phrase D ∷ [])
effects A.Absurd = one (a_phrase D ∷ a_phrase E ∷ plain ∷ thing ∷ []) (a_phrase D ∷ [])
effects A.Conclude = one (a_phrase D ∷ a_phrase E ∷ plain ∷ thing ∷ []) (a_phrase D ∷ [])
effects A.NoBinders = one [] (binders ∷ [])
effects A.AddBinder = of (a_phrase D ∷ thing ∷ binders ∷ []) (a_phrase D ∷ binders ∷ []) ∷ of (thing ∷ thing ∷ binders ∷ []) (thing ∷ binders ∷ []) ∷ []
effects A.AddSortedBinder = one (plain ∷ thing ∷ binders ∷ []) (binders ∷ [])
effects A.PickAny = one (a_phrase D ∷ binders ∷ thing ∷ []) (a_phrase D ∷ [])
effects A.PickWitness = one (a_phrase D ∷ a_phrase Any ∷ plain ∷ thing ∷ []) (a_phrase D ∷ [])
effects A.Domain = one (plain ∷ plain ∷ plain ∷ []) (a_directive ∷ [])
effects A.NoConstructors = one [] (plain ∷ [])
effects A.AddConstructor = one (plain ∷ plain ∷ plain ∷ []) (plain ∷ [])
effects A.Datatype = one (plain ∷ plain ∷ plain ∷ plain ∷ []) (a_directive ∷ [])
effects A.NoParameters = one [] (plain ∷ [])
effects A.Parameters = one (plain ∷ plain ∷ plain ∷ []) (plain ∷ [])
effects A.NoArguments = one (plain ∷ []) (plain ∷ plain ∷ [])
effects A.Declare = one (plain ∷ plain ∷ plain ∷ plain ∷ plain ∷ []) (a_directive ∷ [])
effects A.Define = one (a_phrase Any ∷ plain ∷ plain ∷ []) (a_directive ∷ [])
effects A.DefineFun = one (a_phrase Any ∷ plain ∷ plain ∷ plain ∷ []) (a_directive ∷ [])
effects A.Assert = one (a_phrase E ∷ plain ∷ plain ∷ []) (a_directive ∷ [])
effects A.AssertClosed = one (a_phrase E ∷ plain ∷ plain ∷ []) (a_directive ∷ [])
effects A.Load = one (plain ∷ plain ∷ []) (a_directive ∷ [])
effects A.Say = one (a_phrase Any ∷ []) (a_directive ∷ [])
effects A.SayAt = one (a_phrase Any ∷ plain ∷ []) (a_directive ∷ [])

-- what a token leaves
abbrev pub saves : Guard → Class → Tys
saves g (C.Mark m) = []
saves g C.Wild = wild ∷ []
saves g C.SomeOf = some_word ∷ []
saves New (C.Word w) = fresh ∷ []
saves New C.SortVariable = fresh ∷ []
saves g c = thing ∷ []

-- what a symbol that is told this takes and leaves
abbrev pub signature : Symbol → Want → Effect
signature S.Directive w = of [] (a_directive ∷ [])
signature S.DirectiveInside w = of (thing ∷ thing ∷ []) (a_directive ∷ [])
signature S.Header w = of [] (plain ∷ plain ∷ [])
signature S.Constructor w = of (plain ∷ []) (plain ∷ [])
signature S.Constructors w = of (plain ∷ []) (plain ∷ [])
signature S.ConstructorRows w = of (plain ∷ []) (plain ∷ [])
signature S.DeclaredNames w = of (names ∷ []) (names ∷ [])
signature S.Group w = of [] (names ∷ [])
signature S.GroupNames w = of (names ∷ []) (names ∷ [])
signature S.Signature w = of (plain ∷ []) (plain ∷ plain ∷ plain ∷ [])
signature S.SignatureInside w = of (plain ∷ plain ∷ []) (plain ∷ plain ∷ plain ∷ [])
signature S.Type w = of [] (plain ∷ plain ∷ [])
signature S.TypeInside w = of (plain ∷ []) (plain ∷ plain ∷ [])
signature S.BareSignature w = of (plain ∷ []) (plain ∷ plain ∷ plain ∷ [])
signature S.BareSignatureInside w = of (plain ∷ plain ∷ []) (plain ∷ plain ∷ plain ∷ [])
signature S.BareType w = of [] (plain ∷ plain ∷ [])
signature S.Definition w = of (plain ∷ []) (a_directive ∷ [])
signature S.DefinitionInside w = of (plain ∷ []) (a_directive ∷ [])
signature S.Sort w = of [] (plain ∷ [])
signature S.SortInside w = of (plain ∷ []) (plain ∷ [])
signature S.Sorts w = of (plain ∷ []) (plain ∷ [])
signature S.SquareSorts w = of (plain ∷ []) (plain ∷ [])
signature S.Pattern w = of [] (a_pattern ∷ [])
signature S.PatternInside w = of (thing ∷ []) (a_pattern ∷ [])
signature S.Patterns w = of (patterns ∷ []) (patterns ∷ [])
signature S.SquarePatterns w = of (patterns ∷ []) (patterns ∷ [])
signature S.Parameters w = of (params ∷ []) (params ∷ [])
signature S.SortVariables w = of (names ∷ []) (names ∷ [])
signature S.Phrase w = of [] (a_phrase w ∷ [])
signature S.VariableSort w = of (thing ∷ []) (a_phrase E ∷ [])
signature S.Inside w = of (thing ∷ []) (a_phrase w ∷ [])
signature S.AfterOperator w = of (a_phrase E ∷ thing ∷ []) (a_phrase E ∷ [])
signature S.AfterWord w = of (a_phrase E ∷ thing ∷ []) (a_phrase E ∷ [])
signature S.AfterFirst w = of (a_phrase w ∷ thing ∷ []) (a_phrase w ∷ [])
signature S.Parts Any = of (phrases Any ∷ []) (phrases Any ∷ [])
signature S.Parts (Only k) = of (some_phrases (Only k) ∷ []) (some_phrases (Only k) ∷ [])
signature S.SquareParts w = of (phrases E ∷ []) (phrases E ∷ [])
signature S.Sequence w = of (some_phrases D ∷ []) (some_phrases D ∷ [])
signature S.Lambda w = of (thing ∷ []) (closure ∷ [])
signature S.Method w = of (thing ∷ []) (closure ∷ [])
signature S.Closure w = of [] (closure ∷ [])
signature S.ClosureInside w = of (thing ∷ []) (closure ∷ [])
signature S.Let w = of (thing ∷ []) (a_phrase w ∷ [])
signature S.LetPairs w = of (bindings w ∷ thing ∷ []) (a_phrase w ∷ [])
signature S.LetRows w = of (bindings w ∷ thing ∷ []) (a_phrase w ∷ [])
signature S.LetRec w = of (thing ∷ []) (a_phrase w ∷ [])
signature S.LetRecPair w = of (closures ∷ thing ∷ []) (a_phrase w ∷ [])
signature S.LetRecPairs w = of (some_closures ∷ thing ∷ []) (a_phrase w ∷ [])
signature S.LetRecRow w = of (closures ∷ thing ∷ []) (a_phrase w ∷ [])
signature S.LetRecRows w = of (some_closures ∷ thing ∷ []) (a_phrase w ∷ [])
signature S.Clauses w = of [] (clauses w ∷ [])
signature S.ClausesInside w = of [] (clauses w ∷ [])
signature S.ClausePairs w = of (clauses w ∷ []) (clauses w ∷ [])
signature S.ClauseRows w = of (clauses w ∷ []) (clauses w ∷ [])
signature S.Check w = of (thing ∷ []) (a_phrase w ∷ [])
signature S.CheckInside w = of (thing ∷ []) (a_phrase w ∷ [])
signature S.BranchInside w = of (branches w ∷ thing ∷ []) (a_phrase w ∷ [])
signature S.BranchPairs w = of (branches w ∷ thing ∷ []) (a_phrase w ∷ [])
signature S.BranchRow w = of (branches w ∷ thing ∷ []) (a_phrase w ∷ [])
signature S.BranchRows w = of (branches w ∷ thing ∷ []) (a_phrase w ∷ [])
signature S.Try w = of (thing ∷ []) (a_phrase w ∷ [])
signature S.TryInside w = of [] (some_phrases w ∷ [])
signature S.Alternatives w = of (some_phrases w ∷ []) (some_phrases w ∷ [])
signature S.Hypothesis w = of [] (a_phrase E ∷ plain ∷ [])
signature S.HypothesisName w = of (thing ∷ []) (a_phrase E ∷ plain ∷ [])
signature S.FirstBinder w = of (binders ∷ thing ∷ []) (a_phrase D ∷ [])
signature S.AfterFirstBinder w = of (thing ∷ binders ∷ thing ∷ []) (a_phrase D ∷ [])
signature S.Binders w = of (binders ∷ thing ∷ []) (a_phrase D ∷ [])
signature S.AfterBinder w = of (thing ∷ binders ∷ thing ∷ []) (a_phrase D ∷ [])

abbrev is_only : Want → Bool
is_only Any = false
is_only (Only k) = true

abbrev is_deduction_only : Want → Bool
is_deduction_only (Only true) = true
is_deduction_only w = false

-- what a symbol may be told: behind the first of a list its kind is known
abbrev pub allowed : Symbol → Want → Bool
allowed S.Directive w = false
allowed S.ClausePairs w = is_only w
allowed S.ClauseRows w = is_only w
allowed S.BranchInside w = is_only w
allowed S.BranchPairs w = is_only w
allowed S.BranchRow w = is_only w
allowed S.BranchRows w = is_only w
allowed S.Alternatives w = is_only w
allowed S.AfterFirst w = is_only w
allowed S.FirstBinder w = is_deduction_only w
allowed S.AfterFirstBinder w = is_deduction_only w
allowed S.Binders w = is_deduction_only w
allowed S.AfterBinder w = is_deduction_only w
allowed s w = true

-- what is beneath these, where the newest are
abbrev pub strip : Tys → Tys → Option Tys
strip [] σ = Some σ
strip (u ∷ us) [] = None
strip (u ∷ us) (t ∷ σ) = if sub t u then strip us σ else None

abbrev pub on_some : {A B : Type 0} → Option A → (A → Option B) → Option B
on_some None go = None
on_some (Some x) go = go x

abbrev pub or_else : Option Tys → Tys → Option Tys → Option Tys
or_else None leaves o = o
or_else (Some ρ) leaves o = Some (leaves ++ ρ)

-- by the first of these that fits
abbrev pub made : List Effect → Tys → Option Tys
made [] σ = None
made (f ∷ fs) σ = or_else (strip f.takes σ) f.leaves (made fs σ)

abbrev pub called : Symbol → Want → Tys → Option Tys
called s w σ = if allowed s w then on_some (strip (signature s w).takes σ) (λ ρ. Some ((signature s w).leaves ++ ρ)) else None

-- where a symbol is told the kind of the newest value
abbrev pub alike : Symbol → Tys → Option Tys
alike S.Parts (some_phrases w ∷ σ) = Some (some_phrases w ∷ σ)
alike S.Alternatives (some_phrases w ∷ σ) = Some (some_phrases w ∷ σ)
alike S.ClauseRows (clauses w ∷ σ) = Some (clauses w ∷ σ)
alike S.ClausePairs (clauses w ∷ σ) = Some (clauses w ∷ σ)
alike S.BranchRows (branches w ∷ thing ∷ σ) = Some (a_phrase w ∷ σ)
alike S.BranchPairs (branches w ∷ thing ∷ σ) = Some (a_phrase w ∷ σ)
alike S.AfterFirst (a_phrase w ∷ thing ∷ σ) = Some (a_phrase w ∷ σ)
alike s σ = None

-- and where it is told what a `let` may be behind a binding
abbrev pub behind_binding : Symbol → Want → Tys → Option Tys
behind_binding S.LetPairs w (added u ∷ thing ∷ σ) = if sub (added u) (added w) then Some (a_phrase w ∷ σ) else None
behind_binding S.LetRows w (added u ∷ thing ∷ σ) = if sub (added u) (added w) then Some (a_phrase w ∷ σ) else None
behind_binding s w σ = None

abbrev pub symbol_made : Symbol → Attr → Tys → Option Tys
symbol_made s (Is w) σ = called s w σ
symbol_made s (Given Same w) σ = called s w σ
symbol_made s (Given Bound w) σ = called s (bound w) σ
symbol_made s (Given AsTop w) σ = alike s σ
symbol_made s (Given After w) σ = behind_binding s w σ

abbrev pub subs : Tys → Tys → Bool
subs [] [] = true
subs [] (u ∷ ρ) = false
subs (t ∷ σ) [] = false
subs (t ∷ σ) (u ∷ ρ) = both (sub t u) (subs σ ρ)

abbrev pub holds : Option Tys → (Tys → Bool) → Bool
holds None go = false
holds (Some σ) go = go σ

-- whether these items lead from these types to those
abbrev pub leads : List Item → Tys → Tys → Bool
leads [] σ ρ = subs σ ρ
leads (I.Token c ∷ is) σ ρ = leads is (saves Free c ++ σ) ρ
leads (I.Act x ∷ is) σ ρ = holds (made (effects x) σ) (λ τ. leads is τ ρ)
leads (I.Symbol s x ∷ is) σ ρ = holds (symbol_made s x σ) (λ τ. leads is τ ρ)

abbrev pub acted : List Action → Tys → Tys → Bool
acted [] σ ρ = subs σ ρ
acted (x ∷ xs) σ ρ = holds (made (effects x) σ) (λ τ. acted xs τ ρ)

abbrev pub is_static : Attr → Bool
is_static (Is w) = true
is_static (Given Same w) = true
is_static x = false

-- what such a symbol is told
abbrev pub static : Want → Attr → Want
static w (Is v) = v
static w (Given r v) = w

abbrev pub if_fits : Bool → Bool → Bool
if_fits true b = b
if_fits false b = true

-- a row keeps to its symbol's signature
abbrev pub keeps : Symbol → Want → Class → Row → Bool
keeps s w c none = true
keeps s w c (take m g is) = if_fits (fits w m) (leads (told_all w is) (saves g c ++ (signature s w).takes) (signature s w).leaves)
keeps s w c (skip m xs) = if_fits (fits w m) (acted xs (signature s w).takes (signature s w).leaves)
keeps s w c (begin_as m s₁ x is) = if_fits (fits w m) (both (is_static x) (holds (called s₁ (static w x) (signature s w).takes) (λ τ. leads (told_all w is) τ (signature s w).leaves)))
