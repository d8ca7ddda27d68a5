-- The grammar's rows keep to what their symbols take and leave, so a directive is all that is left, and the sort variables
-- that a `declare` lists differ.
use Rattle.std.proofs.Common.{◌≡◌, ℕ, zero, suc, List, [], ◌∷◌, ◌++◌, length, Bool, true, false, not, ◌||◌, ◌⊎◌, inl, inr, if◌then◌else◌, Some, None, refl, sym, ap, ◌∙◌, subst, append_assoc}
use Rattle.std.specs.Prelude.{IfSome}
use Rattle.std.specs.Bool.{nat_eq}
use Rattle.std.specs.List.{list_any}
use Rattle.std.proofs.lemmas.Bool.{eqb-true}
use Rattle.std.proofs.lemmas.List.Folds.{list_any-append}
use Rattle.ath_sorts.specs.declared.sorts.Sym.{Sym}
use Rattle.ath_sorts.specs.Validity.{AreDistinct}
use Rattle.ath_syntax.specs.Tree.{Statement, declare_is, DirectiveTree, directive_at, same_name}
use Rattle.ath_grammar.specs.declared.lexeme.Lexeme.TheVariants as L
use Rattle.ath_grammar.specs.declared.class.Class.{Class}
use Rattle.ath_grammar.specs.declared.class.Class.TheVariants as C
use Rattle.ath_grammar.specs.declared.symbol.Symbol.{Symbol}
use Rattle.ath_grammar.specs.declared.symbol.Symbol.TheVariants as S
use Rattle.ath_grammar.specs.declared.action.Guard.{Guard}
use Rattle.ath_grammar.specs.declared.action.Guard.TheVariants.{Free, New}
use Rattle.ath_grammar.specs.declared.action.Action.{Action}
use Rattle.ath_grammar.specs.declared.action.Action.TheVariants as A
use Rattle.ath_grammar.specs.Tokens.{Placed, at, class_of}
use Rattle.ath_grammar.specs.Tables.{both}
use Rattle.ath_grammar.specs.Spells.{Spells}
use Rattle.ath_grammar.specs.Grammar.{grammar}
use Rattle.ath_grammar.specs.Trees as V
use Rattle.ath_grammar.specs.Trees.{Value, a_directive, v1, v2, v3, rest, act_on, saved, may_stand, trees}
use Rattle.ath_grammar.specs.Directives.{directive_items, SpellsDirective}
use Rattle.ath_grammar.proofs.Classes.{holds_of_all, every}
use Rattle.ath_grammar.proofs.Completes.{both_left, both_right}
use Rattle.ath_grammar.proofs.Typed.{Types, Effect, makes, beneath, by_newest, never, made, strip, on_some, put, chain, some_is, Signature, keeps, left}

abbrev place : ℕ
place = 0

abbrev name : ℕ
name = 1

abbrev variable : ℕ
variable = 2

abbrev text : ℕ
text = 3

abbrev sort : ℕ
sort = 4

abbrev sorts : ℕ
sorts = 5

abbrev pattern : ℕ
pattern = 6

abbrev patterns : ℕ
patterns = 7

abbrev names : ℕ
names = 8

abbrev phrase : ℕ
phrase = 9

abbrev phrases : ℕ
phrases = 10

abbrev bindings : ℕ
bindings = 11

abbrev clauses : ℕ
clauses = 12

abbrev branches : ℕ
branches = 13

abbrev label : ℕ
label = 14

abbrev binders : ℕ
binders = 15

abbrev constructors : ℕ
constructors = 16

abbrev parameters : ℕ
parameters = 17

abbrev directive : ℕ
directive = 18

-- sort variables that differ, one, and one that differs from those of the value beneath
abbrev sort_names : ℕ
sort_names = 19

abbrev sort_name : ℕ
sort_name = 20

abbrev new_sort_name : ℕ
new_sort_name = 21

abbrev type_of : Value → ℕ
type_of (V.a_place p) = place
type_of (V.a_name p n) = name
type_of (V.a_variable p x k) = variable
type_of (V.a_text p s) = text
type_of (V.a_sort s) = sort
type_of (V.sorts ss) = sorts
type_of (V.a_pattern p) = pattern
type_of (V.patterns ps) = patterns
type_of (V.names ns) = names
type_of (V.a_phrase x) = phrase
type_of (V.phrases xs) = phrases
type_of (V.bindings bs) = bindings
type_of (V.clauses cs) = clauses
type_of (V.branches bs) = branches
type_of (V.label n) = label
type_of (V.binders bs) = binders
type_of (V.constructors cs) = constructors
type_of (V.parameters vs) = parameters
type_of (V.a_directive d) = directive

-- the values of a type without what else is known of them
abbrev shape : ℕ → ℕ
shape t = if nat_eq t sort_names then names else if nat_eq t sort_name then name else if nat_eq t new_sort_name then name else t

abbrev shapes : Types → Types
shapes [] = []
shapes (t ∷ τ) = shape t ∷ shapes τ

abbrev types : List Value → Types
types [] = []
types (v ∷ vs) = type_of v ∷ types vs

abbrev pub StatementDiffers : Statement → Type 0
StatementDiffers (declare_is ns vs ss s) = IfSome vs AreDistinct
StatementDiffers _ = Unit {0}

-- the sort variables that a `declare` lists differ
abbrev pub DirectiveDiffers : DirectiveTree → Type 0
DirectiveDiffers (directive_at p s) = StatementDiffers s

abbrev ValueDiffers : Value → Type 0
ValueDiffers (V.a_directive d) = DirectiveDiffers d
ValueDiffers _ = Unit {0}

abbrev chosen : Bool → Type 0 → Type 0 → Type 0
chosen true A B = A
chosen false A B = B

-- what is known of a value of a type, with those beneath it
abbrev Fact : ℕ → Value → List Value → Type 0
Fact t v vs = chosen (nat_eq t sort_names) (AreDistinct (V.names_in v)) (chosen (nat_eq t new_sort_name) (list_any (same_name (V.name_in v)) (V.seen (v1 vs)) ≡ false)
    (chosen (nat_eq t parameters) (IfSome (V.parameters_in v) AreDistinct) (chosen (nat_eq t directive) (ValueDiffers v) (Unit {0}))))

-- these values are of these types
abbrev Fit : Types → List Value → Type 0
Fit [] [] = Unit {0}
Fit [] (v ∷ vs) = ⊥
Fit (t ∷ τ) [] = ⊥
Fit (t ∷ τ) (v ∷ vs) = (type_of v ≡ shape t) × Fact t v vs × Fit τ vs

-- sort variables that differ are names
abbrev accepts : ℕ → ℕ → Bool
accepts t u = nat_eq t u || both (nat_eq t names) (nat_eq u sort_names)

-- what a token of a class leaves
abbrev save_types : Guard → Class → Types
save_types g (C.Word w) = name ∷ []
save_types g C.Wild = name ∷ []
save_types g C.SomeOf = name ∷ []
save_types g C.Variable = variable ∷ []
save_types Free C.SortVariable = sort_name ∷ []
save_types New C.SortVariable = new_sort_name ∷ []
save_types g C.Text = text ∷ []
save_types g (C.Opener o) = place ∷ []
save_types g (C.Directive d) = place ∷ []
save_types g (C.Mark m) = []

-- beneath a value of which nothing is known of those beneath it
abbrev settled : Types → Types → Effect
settled pre post = by_newest new_sort_name never (beneath pre post)

-- what an action takes, the newest first, and what it leaves
abbrev effect : Action → Effect
effect A.Drop = makes (place ∷ []) []
effect A.Again = makes (place ∷ []) (place ∷ place ∷ [])
effect A.NoSorts = makes [] (sorts ∷ [])
effect A.AddSort = makes (sort ∷ sorts ∷ []) (sorts ∷ [])
effect A.NameSort = makes (name ∷ []) (sort ∷ [])
effect A.VariableSort = makes (sort_name ∷ []) (sort ∷ [])
effect A.ConSort = makes (sorts ∷ name ∷ place ∷ []) (sort ∷ [])
effect A.NoPatterns = makes [] (patterns ∷ [])
effect A.AddPattern = makes (pattern ∷ patterns ∷ []) (patterns ∷ [])
effect A.AnyPattern = makes (name ∷ []) (pattern ∷ [])
effect A.NamePattern = makes (name ∷ []) (pattern ∷ [])
effect A.StringPattern = makes (text ∷ []) (pattern ∷ [])
effect A.ListPattern = makes (patterns ∷ place ∷ []) (pattern ∷ [])
effect A.ListOfPattern = makes (pattern ∷ pattern ∷ place ∷ []) (pattern ∷ [])
effect A.SomePattern = makes (name ∷ name ∷ place ∷ []) (pattern ∷ [])
effect A.AppPattern = makes (patterns ∷ name ∷ place ∷ []) (pattern ∷ [])
effect A.NoNames = makes [] (sort_names ∷ [])
effect A.OneName = by_newest sort_name (makes (sort_name ∷ []) (sort_names ∷ [])) (makes (name ∷ []) (names ∷ []))
effect A.AddName = by_newest new_sort_name (makes (new_sort_name ∷ sort_names ∷ []) (sort_names ∷ [])) (makes (name ∷ names ∷ []) (names ∷ []))
effect A.Name = makes (name ∷ []) (phrase ∷ [])
effect A.Variable = makes (variable ∷ []) (phrase ∷ [])
effect A.SortedVariable = makes (sort ∷ variable ∷ []) (phrase ∷ [])
effect A.String = makes (text ∷ []) (phrase ∷ [])
effect A.NoPhrases = makes [] (phrases ∷ [])
effect A.OnePhrase = makes (phrase ∷ []) (phrases ∷ [])
effect A.AddPhrase = makes (phrase ∷ phrases ∷ []) (phrases ∷ [])
effect A.List = makes (phrases ∷ place ∷ []) (phrase ∷ [])
effect A.Unwrap = makes (phrase ∷ place ∷ []) (phrase ∷ [])
effect A.Ascribe = makes (sort ∷ phrase ∷ place ∷ []) (phrase ∷ [])
effect A.Apply = makes (phrases ∷ phrase ∷ place ∷ []) (phrase ∷ [])
effect A.Call = makes (phrases ∷ phrase ∷ place ∷ []) (phrase ∷ [])
effect A.Lambda = makes (phrase ∷ names ∷ place ∷ []) (phrase ∷ [])
effect A.Method = makes (phrase ∷ names ∷ place ∷ []) (phrase ∷ [])
effect A.NoBindings = makes [] (bindings ∷ [])
effect A.AddBinding = makes (phrase ∷ name ∷ bindings ∷ []) (bindings ∷ [])
effect A.Let = makes (phrase ∷ bindings ∷ place ∷ []) (phrase ∷ [])
effect A.LetRec = makes (phrase ∷ bindings ∷ place ∷ []) (phrase ∷ [])
effect A.NoClauses = makes [] (clauses ∷ [])
effect A.AddClause = makes (phrase ∷ pattern ∷ clauses ∷ []) (clauses ∷ [])
effect A.Match = makes (clauses ∷ phrase ∷ place ∷ []) (phrase ∷ [])
effect A.Induct = makes (clauses ∷ phrase ∷ place ∷ []) (phrase ∷ [])
effect A.Cases = makes (clauses ∷ phrase ∷ place ∷ []) (phrase ∷ [])
effect A.NoBranches = makes [] (branches ∷ [])
effect A.AddBranch = makes (phrase ∷ phrase ∷ branches ∷ []) (branches ∷ [])
effect A.Check = makes (branches ∷ place ∷ []) (phrase ∷ [])
effect A.CheckElse = makes (phrase ∷ branches ∷ place ∷ []) (phrase ∷ [])
effect A.Try = makes (phrases ∷ place ∷ []) (phrase ∷ [])
effect A.Sequence = makes (phrases ∷ place ∷ []) (phrase ∷ [])
effect A.Named = makes (name ∷ []) (label ∷ [])
effect A.Unnamed = settled [] (label ∷ [])
effect A.Assume = makes (phrase ∷ phrase ∷ label ∷ place ∷ []) (phrase ∷ [])
effect A.Absurd = makes (phrase ∷ phrase ∷ label ∷ place ∷ []) (phrase ∷ [])
effect A.Conclude = makes (phrase ∷ phrase ∷ label ∷ place ∷ []) (phrase ∷ [])
effect A.NoBinders = makes [] (binders ∷ [])
effect A.AddBinder = settled (name ∷ binders ∷ []) (binders ∷ [])
effect A.AddSortedBinder = makes (sort ∷ name ∷ binders ∷ []) (binders ∷ [])
effect A.PickAny = makes (phrase ∷ binders ∷ place ∷ []) (phrase ∷ [])
effect A.PickWitness = makes (phrase ∷ phrase ∷ name ∷ place ∷ []) (phrase ∷ [])
effect A.Domain = makes (sort_names ∷ name ∷ place ∷ []) (directive ∷ [])
effect A.NoConstructors = makes [] (constructors ∷ [])
effect A.AddConstructor = makes (sorts ∷ name ∷ constructors ∷ []) (constructors ∷ [])
effect A.Datatype = makes (constructors ∷ sort_names ∷ name ∷ place ∷ []) (directive ∷ [])
effect A.NoParameters = makes [] (parameters ∷ [])
effect A.Parameters = makes (sort_names ∷ place ∷ parameters ∷ []) (parameters ∷ [])
effect A.NoArguments = settled [] (sorts ∷ [])
effect A.Declare = makes (sort ∷ sorts ∷ parameters ∷ names ∷ place ∷ []) (directive ∷ [])
effect A.Define = makes (phrase ∷ name ∷ place ∷ []) (directive ∷ [])
effect A.DefineFun = makes (phrase ∷ names ∷ name ∷ place ∷ []) (directive ∷ [])
effect A.Assert = makes (phrase ∷ label ∷ place ∷ []) (directive ∷ [])
effect A.AssertClosed = makes (phrase ∷ label ∷ place ∷ []) (directive ∷ [])
effect A.Load = makes (text ∷ place ∷ []) (directive ∷ [])
effect A.Say = makes (phrase ∷ []) (directive ∷ [])
effect A.SayAt = makes (phrase ∷ place ∷ []) (directive ∷ [])

abbrev of : Types → Types → Signature
of before behind = record { takes = before; leaves = behind }

-- what a symbol takes, the newest first, and what it leaves
abbrev signature : Symbol → Signature
signature S.Directive = of [] (directive ∷ [])
signature S.DirectiveInside = of (place ∷ place ∷ []) (directive ∷ [])
signature S.Header = of [] (sort_names ∷ name ∷ [])
signature S.Constructor = of (constructors ∷ []) (constructors ∷ [])
signature S.Constructors = of (constructors ∷ []) (constructors ∷ [])
signature S.ConstructorRows = of (constructors ∷ []) (constructors ∷ [])
signature S.DeclaredNames = of (names ∷ []) (names ∷ [])
signature S.Group = of [] (names ∷ [])
signature S.GroupNames = of (names ∷ []) (names ∷ [])
signature S.Signature = of (parameters ∷ []) (sort ∷ sorts ∷ parameters ∷ [])
signature S.SignatureInside = of (place ∷ parameters ∷ []) (sort ∷ sorts ∷ parameters ∷ [])
signature S.Type = of [] (sort ∷ sorts ∷ [])
signature S.TypeInside = of (place ∷ []) (sort ∷ sorts ∷ [])
signature S.BareSignature = of (parameters ∷ []) (sort ∷ sorts ∷ parameters ∷ [])
signature S.BareSignatureInside = of (place ∷ parameters ∷ []) (sort ∷ sorts ∷ parameters ∷ [])
signature S.BareType = of [] (sort ∷ sorts ∷ [])
signature S.Definition = of (place ∷ []) (directive ∷ [])
signature S.DefinitionInside = of (place ∷ []) (directive ∷ [])
signature S.Sort = of [] (sort ∷ [])
signature S.SortInside = of (place ∷ []) (sort ∷ [])
signature S.Sorts = of (sorts ∷ []) (sorts ∷ [])
signature S.SquareSorts = of (sorts ∷ []) (sorts ∷ [])
signature S.Pattern = of [] (pattern ∷ [])
signature S.PatternInside = of (place ∷ []) (pattern ∷ [])
signature S.Patterns = of (patterns ∷ []) (patterns ∷ [])
signature S.SquarePatterns = of (patterns ∷ []) (patterns ∷ [])
signature S.Parameters = of (names ∷ []) (names ∷ [])
signature S.SortVariables = of (sort_names ∷ []) (sort_names ∷ [])
signature S.Phrase = of [] (phrase ∷ [])
signature S.VariableSort = of (variable ∷ []) (phrase ∷ [])
signature S.Inside = of (place ∷ []) (phrase ∷ [])
signature S.AfterOperator = of (phrase ∷ place ∷ []) (phrase ∷ [])
signature S.AfterWord = of (phrase ∷ place ∷ []) (phrase ∷ [])
signature S.AfterFirst = of (phrase ∷ place ∷ []) (phrase ∷ [])
signature S.Parts = of (phrases ∷ []) (phrases ∷ [])
signature S.SquareParts = of (phrases ∷ []) (phrases ∷ [])
signature S.Sequence = of (phrases ∷ []) (phrases ∷ [])
signature S.Lambda = of (place ∷ []) (phrase ∷ [])
signature S.Method = of (place ∷ []) (phrase ∷ [])
signature S.Closure = of [] (phrase ∷ [])
signature S.ClosureInside = of (place ∷ []) (phrase ∷ [])
signature S.Let = of (place ∷ []) (phrase ∷ [])
signature S.LetPairs = of (bindings ∷ place ∷ []) (phrase ∷ [])
signature S.LetRows = of (bindings ∷ place ∷ []) (phrase ∷ [])
signature S.LetRec = of (place ∷ []) (phrase ∷ [])
signature S.LetRecPair = of (bindings ∷ place ∷ []) (phrase ∷ [])
signature S.LetRecPairs = of (bindings ∷ place ∷ []) (phrase ∷ [])
signature S.LetRecRow = of (bindings ∷ place ∷ []) (phrase ∷ [])
signature S.LetRecRows = of (bindings ∷ place ∷ []) (phrase ∷ [])
signature S.Clauses = of [] (clauses ∷ [])
signature S.ClausesInside = of [] (clauses ∷ [])
signature S.ClausePairs = of (clauses ∷ []) (clauses ∷ [])
signature S.ClauseRows = of (clauses ∷ []) (clauses ∷ [])
signature S.Check = of (place ∷ []) (phrase ∷ [])
signature S.CheckInside = of (place ∷ []) (phrase ∷ [])
signature S.BranchInside = of (branches ∷ place ∷ []) (phrase ∷ [])
signature S.BranchPairs = of (branches ∷ place ∷ []) (phrase ∷ [])
signature S.BranchRow = of (branches ∷ place ∷ []) (phrase ∷ [])
signature S.BranchRows = of (branches ∷ place ∷ []) (phrase ∷ [])
signature S.Try = of (place ∷ []) (phrase ∷ [])
signature S.TryInside = of [] (phrases ∷ [])
signature S.Alternatives = of (phrases ∷ []) (phrases ∷ [])
signature S.Hypothesis = of [] (phrase ∷ label ∷ [])
signature S.HypothesisName = of (name ∷ []) (phrase ∷ label ∷ [])
signature S.FirstBinder = of (binders ∷ place ∷ []) (phrase ∷ [])
signature S.AfterFirstBinder = of (name ∷ binders ∷ place ∷ []) (phrase ∷ [])
signature S.Binders = of (binders ∷ place ∷ []) (phrase ∷ [])
signature S.AfterBinder = of (name ∷ binders ∷ place ∷ []) (phrase ∷ [])

row_keeps : (s : Symbol) → holds_of_all (λ c. keeps accepts save_types effect signature s c (grammar s c)) ≡ true
row_keeps S.Directive = refl
row_keeps _ = refl

rows_keep : (s : Symbol) (c : Class) → keeps accepts save_types effect signature s c (grammar s c) ≡ true
rows_keep s c = every (λ d. keeps accepts save_types effect signature s d (grammar s d)) (row_keeps s) c

not_true : (b : Bool) → not b ≡ true → b ≡ false
not_true true e = cc
not_true false e = refl

saves : (g : Guard) (t : Placed) (vs : List Value) (τ : Types) → may_stand g t vs ≡ true → Fit τ vs → Fit (save_types g (class_of t) ++ τ) (saved t vs)
saves g (at p (L.Word w n)) vs τ e h = (refl, tt, h)
saves g (at p (L.Wild n)) vs τ e h = (refl, tt, h)
saves g (at p (L.SomeOf n)) vs τ e h = (refl, tt, h)
saves g (at p (L.Variable x k)) vs τ e h = (refl, tt, h)
saves Free (at p (L.SortVariable n)) vs τ e h = (refl, tt, h)
saves New (at p (L.SortVariable n)) vs τ e h = (refl, not_true (list_any (same_name n) (V.seen (v1 vs))) e, h)
saves g (at p (L.Text s)) vs τ e h = (refl, tt, h)
saves g (at p (L.Opener o)) vs τ e h = (refl, tt, h)
saves g (at p (L.Directive d)) vs τ e h = (refl, tt, h)
saves g (at p (L.Mark m)) vs τ e h = h

free : (t : Placed) (vs : List Value) → may_stand Free t vs ≡ true
free t vs = refl

accepts_so : (t u : ℕ) → accepts t u ≡ true → (t ≡ u) ⊎ ((t ≡ names) × (u ≡ sort_names))
accepts_so t u e = go (nat_eq t u) refl e
  where
    go : (b : Bool) → nat_eq t u ≡ b → (b || both (nat_eq t names) (nat_eq u sort_names)) ≡ true → (t ≡ u) ⊎ ((t ≡ names) × (u ≡ sort_names))
    go true q h = inl (eqb-true t u q)
    go false q h = inr (eqb-true t names (both_left (nat_eq t names) (nat_eq u sort_names) h), eqb-true u sort_names (both_right (nat_eq t names) (nat_eq u sort_names) h))

wider : (t u : ℕ) (v : Value) (vs : List Value) → (t ≡ u) ⊎ ((t ≡ names) × (u ≡ sort_names)) → type_of v ≡ shape u → Fact u v vs → (type_of v ≡ shape t) × Fact t v vs
wider t u v vs (inl p) e h = (subst (λ (x : ℕ). type_of v ≡ shape x) (sym p) e, subst (λ (x : ℕ). Fact x v vs) (sym p) h)
wider t u v vs (inr p) e h = (subst (λ (x : ℕ). type_of v ≡ shape x) (sym p.0) (subst (λ (x : ℕ). type_of v ≡ shape x) p.1 e), subst (λ (x : ℕ). Fact x v vs) (sym p.0) tt)

loosen : (vs : List Value) (pre σ ρ τ : Types) → Fit (σ ++ τ) vs → strip accepts pre σ ≡ Some ρ → Fit (pre ++ (ρ ++ τ)) vs
loosen vs [] σ ρ τ h e = subst (λ (x : Types). Fit (x ++ τ) vs) (some_is e) h
loosen vs (t ∷ pre) [] ρ τ h e = cc
loosen [] (t ∷ pre) (u ∷ σ) ρ τ h e = absurd h
loosen (v ∷ vs) (t ∷ pre) (u ∷ σ) ρ τ h e = go (accepts t u) refl e (loosen vs pre σ ρ τ h.2)
  where
    go : (b : Bool) → accepts t u ≡ b → (if b then strip accepts pre σ else None) ≡ Some ρ → (strip accepts pre σ ≡ Some ρ → Fit (pre ++ (ρ ++ τ)) vs) → Fit (t ∷ (pre ++ (ρ ++ τ))) (v ∷ vs)
    go true q k ih = let m = wider t u v vs (accepts_so t u q) h.0 h.1 in (m.0, m.1, ih k)
    go false q k ih = cc

-- without so many of the newest
abbrev fall : ℕ → Types → Types
fall zero σ = σ
fall (suc n) [] = []
fall (suc n) (t ∷ σ) = fall n σ

abbrev fall_values : ℕ → List Value → List Value
fall_values zero vs = vs
fall_values (suc n) vs = fall_values n (rest vs)

abbrev newest : Types → ℕ
newest [] = label
newest (t ∷ σ) = t

-- the types and the values that an action leaves, of whatever values stand there
abbrev acts_on : Effect → Types → Types
acts_on (makes pre post) σ = shapes post ++ fall (length pre) σ
acts_on (beneath pre post) σ = newest σ ∷ (shapes post ++ fall (suc (length pre)) σ)
acts_on (by_newest t f g) σ = acts_on g σ
acts_on never σ = σ

abbrev remains : Effect → List Value → List Value
remains (makes pre post) ws = fall_values (length post) ws
remains (beneath pre post) ws = v1 ws ∷ fall_values (suc (length post)) ws
remains (by_newest t f g) ws = remains g ws
remains never ws = ws

abbrev was : Effect → List Value → List Value
was (makes pre post) vs = fall_values (length pre) vs
was (beneath pre post) vs = v1 vs ∷ fall_values (suc (length pre)) vs
was (by_newest t f g) vs = was g vs
was never vs = vs

does_so : (vs : List Value) (x : Action) → types (act_on x vs) ≡ acts_on (effect x) (types vs)
does_so [] A.Drop = refl
does_so [] _ = refl
does_so (a ∷ []) A.Drop = refl
does_so (a ∷ []) _ = refl
does_so (a ∷ b ∷ []) A.Drop = refl
does_so (a ∷ b ∷ []) _ = refl
does_so (a ∷ b ∷ c ∷ []) A.Drop = refl
does_so (a ∷ b ∷ c ∷ []) _ = refl
does_so (a ∷ b ∷ c ∷ d ∷ []) A.Drop = refl
does_so (a ∷ b ∷ c ∷ d ∷ []) _ = refl
does_so (a ∷ b ∷ c ∷ d ∷ e ∷ vs) A.Drop = refl
does_so (a ∷ b ∷ c ∷ d ∷ e ∷ vs) _ = refl

keeps_so : (vs : List Value) (x : Action) → remains (effect x) (act_on x vs) ≡ was (effect x) vs
keeps_so vs A.Drop = refl
keeps_so vs _ = refl

fit_rest : (pre μ : Types) (vs : List Value) → Fit (pre ++ μ) vs → Fit μ (fall_values (length pre) vs)
fit_rest [] μ vs h = h
fit_rest (t ∷ pre) μ [] h = absurd h
fit_rest (t ∷ pre) μ (v ∷ vs) h = fit_rest pre μ vs h.2

-- nothing else is known of values of these types
abbrev is_plain : ℕ → Bool
is_plain t = not (nat_eq t sort_names || nat_eq t new_sort_name || nat_eq t parameters || nat_eq t directive)

abbrev plain : Types → Bool
plain [] = true
plain (t ∷ τ) = both (is_plain t) (plain τ)

plain_fact : (t : ℕ) (v : Value) (vs : List Value) → is_plain t ≡ true → Fact t v vs
plain_fact t v vs e = go (nat_eq t sort_names) (nat_eq t new_sort_name) (nat_eq t parameters) (nat_eq t directive) e
  where
    go : (a b c d : Bool) → not (a || b || c || d) ≡ true → chosen a (AreDistinct (V.names_in v)) (chosen b (list_any (same_name (V.name_in v)) (V.seen (v1 vs)) ≡ false) (chosen c (IfSome (V.parameters_in v) AreDistinct) (chosen d (ValueDiffers v) (Unit {0}))))
    go true b c d q = cc
    go false true c d q = cc
    go false false true d q = cc
    go false false false true q = cc
    go false false false false q = tt

tails : {t u : ℕ} {σ τ : Types} → t ∷ σ ≡ u ∷ τ → σ ≡ τ
tails {σ = σ} e = ap (λ (x : Types). elim x [ [] ↦ σ | t ∷ ρ ↦ ρ ]) e

-- what is made is of these types, and below it stands what stood there
fit_front : (post μ σ : Types) (ws : List Value) → plain post ≡ true → types ws ≡ shapes post ++ σ → Fit μ (fall_values (length post) ws) → Fit (post ++ μ) ws
fit_front [] μ σ ws e q h = h
fit_front (t ∷ post) μ σ [] e q h = cc
fit_front (t ∷ post) μ σ (w ∷ ws) e q h = (ap (λ (x : Types). newest x) q, plain_fact t w ws (both_left (is_plain t) (plain post) e), fit_front post μ σ ws (both_right (is_plain t) (plain post) e) (tails q) h)

-- nothing else is known of what an action makes
abbrev plainly : Effect → Bool
plainly (makes pre post) = plain post
plainly (beneath pre post) = plain post
plainly (by_newest t f g) = both (plainly f) (plainly g)
plainly never = true

another_fact : (t : ℕ) (v : Value) (vs ws : List Value) → nat_eq new_sort_name t ≡ false → Fact t v vs → Fact t v ws
another_fact t v vs ws e h = go (nat_eq t sort_names) (nat_eq t new_sort_name) refl h
  where
    go : (a b : Bool) → nat_eq t new_sort_name ≡ b
        → chosen a (AreDistinct (V.names_in v)) (chosen b (list_any (same_name (V.name_in v)) (V.seen (v1 vs)) ≡ false) (chosen (nat_eq t parameters) (IfSome (V.parameters_in v) AreDistinct) (chosen (nat_eq t directive) (ValueDiffers v) (Unit {0}))))
        → chosen a (AreDistinct (V.names_in v)) (chosen b (list_any (same_name (V.name_in v)) (V.seen (v1 ws)) ≡ false) (chosen (nat_eq t parameters) (IfSome (V.parameters_in v) AreDistinct) (chosen (nat_eq t directive) (ValueDiffers v) (Unit {0}))))
    go true b q k = k
    go false false q k = k
    go false true q k = absurd (no_path (sym e ∙ ap (λ (x : ℕ). nat_eq new_sort_name x) (eqb-true t new_sort_name q)))
      where
        no_path : false ≡ true → ⊥
        no_path p = cc

below : (t : ℕ) (τ : Types) (v : Value) (vs : List Value) → Fit (t ∷ τ) (v ∷ vs) → Fit τ vs
below t τ v vs h = h.2

fact_of : (t : ℕ) (τ : Types) (v : Value) (vs : List Value) → Fit (t ∷ τ) (v ∷ vs) → Fact t v vs
fact_of t τ v vs h = h.1

plain_does : (pre post : Types) (vs ws : List Value) (σ ρ τ : Types) → plain post ≡ true → types ws ≡ acts_on (makes pre post) (types vs) → remains (makes pre post) ws ≡ was (makes pre post) vs
    → Fit (σ ++ τ) vs → made accepts (makes pre post) σ ≡ Some ρ → Fit (ρ ++ τ) ws
plain_does pre post vs ws σ ρ τ e q r h m =
    let k = chain (strip accepts pre σ) (put post) ρ m in
    subst (λ (x : Types). Fit (x ++ τ) ws) (some_is k.2)
    (subst (λ (x : Types). Fit x ws) (sym (append_assoc post k.0 τ))
    (fit_front post (k.0 ++ τ) (fall (length pre) (types vs)) ws e q (subst (λ (us : List Value). Fit (k.0 ++ τ) us) (sym r) (fit_rest pre (k.0 ++ τ) vs (loosen vs pre σ k.0 τ h k.1)))))

one_made : (pre : Types) (t : ℕ) (vs : List Value) (σ ρ τ : Types) (w : Value) → type_of w ≡ shape t → ((μ : Types) → Fit (pre ++ μ) vs → Fact t w (fall_values (length pre) vs))
    → Fit (σ ++ τ) vs → made accepts (makes pre (t ∷ [])) σ ≡ Some ρ → Fit (ρ ++ τ) (w ∷ fall_values (length pre) vs)
one_made pre t vs σ ρ τ w e fact h q =
    let k = chain (strip accepts pre σ) (put (t ∷ [])) ρ q in
    let m = loosen vs pre σ k.0 τ h k.1 in
    subst (λ (x : Types). Fit (x ++ τ) (w ∷ fall_values (length pre) vs)) (some_is k.2) (e, fact (k.0 ++ τ) m, fit_rest pre (k.0 ++ τ) vs m)

heads : (v w : Value) (vs ws : List Value) → v ∷ vs ≡ w ∷ ws → v ≡ w
heads v w vs ws e = ap (λ (us : List Value). v1 us) e

value_tails : (v w : Value) (vs ws : List Value) → v ∷ vs ≡ w ∷ ws → vs ≡ ws
value_tails v w vs ws e = ap (λ (us : List Value). rest us) e

settled_does : (pre post : Types) (vs ws : List Value) (σ ρ τ : Types) → plain post ≡ true → types ws ≡ acts_on (beneath pre post) (types vs) → remains (beneath pre post) ws ≡ was (beneath pre post) vs
    → Fit (σ ++ τ) vs → made accepts (settled pre post) σ ≡ Some ρ → Fit (ρ ++ τ) ws
settled_does pre post vs ws [] ρ τ e q r h m = cc
settled_does pre post [] ws (u ∷ σ) ρ τ e q r h m = absurd h
settled_does pre post (v ∷ vs) [] (u ∷ σ) ρ τ e q r h m = cc
settled_does pre post (v ∷ vs) (w ∷ ws) (u ∷ σ) ρ τ e q r h m = go (nat_eq new_sort_name u) refl m
  where
    same : w ≡ v
    same = heads w v (fall_values (length post) ws) (fall_values (length pre) vs) r

    go : (b : Bool) → nat_eq new_sort_name u ≡ b → (if b then None else on_some (strip accepts pre σ) (λ x. Some (u ∷ (post ++ x)))) ≡ Some ρ → Fit (ρ ++ τ) (w ∷ ws)
    go true p n = cc
    go false p n =
        let k = chain (strip accepts pre σ) (λ x. Some (u ∷ (post ++ x))) ρ n in
        subst (λ (x : Types). Fit (x ++ τ) (w ∷ ws)) (some_is k.2) (
          subst (λ (x : Value). type_of x ≡ shape u) (sym same) h.0,
          subst (λ (x : Value). Fact u x ws) (sym same) (another_fact u v vs ws p h.1),
          subst (λ (x : Types). Fit x ws) (sym (append_assoc post k.0 τ))
              (fit_front post (k.0 ++ τ) (fall (length pre) (types vs)) ws e (tails q)
              (subst (λ (us : List Value). Fit (k.0 ++ τ) us) (sym (value_tails w v (fall_values (length post) ws) (fall_values (length pre) vs) r)) (fit_rest pre (k.0 ++ τ) vs (loosen vs pre σ k.0 τ h.2 k.1)))),
        )

either_made : (t : ℕ) (f g : Effect) (σ ρ : Types) → made accepts (by_newest t f g) σ ≡ Some ρ → (made accepts f σ ≡ Some ρ) ⊎ (made accepts g σ ≡ Some ρ)
either_made t f g [] ρ e = cc
either_made t f g (u ∷ σ) ρ e = go (nat_eq t u) e
  where
    go : (b : Bool) → (if b then made accepts f (u ∷ σ) else made accepts g (u ∷ σ)) ≡ Some ρ → (made accepts f (u ∷ σ) ≡ Some ρ) ⊎ (made accepts g (u ∷ σ) ≡ Some ρ)
    go true h = inl h
    go false h = inr h

third : (t u : ℕ) (μ : Types) (vs : List Value) → Fit (t ∷ u ∷ parameters ∷ μ) vs → IfSome (V.parameters_in (v3 vs)) AreDistinct
third t u μ [] h = absurd h
third t u μ (a ∷ []) h = absurd (below t (u ∷ parameters ∷ μ) a [] h)
third t u μ (a ∷ b ∷ []) h = absurd (below u (parameters ∷ μ) b [] (below t (u ∷ parameters ∷ μ) a (b ∷ []) h))
third t u μ (a ∷ b ∷ c ∷ vs) h = fact_of parameters μ c vs (below u (parameters ∷ μ) b (c ∷ vs) (below t (u ∷ parameters ∷ μ) a (b ∷ c ∷ vs) h))

listed : (μ : Types) (vs : List Value) → Fit (sort_names ∷ μ) vs → AreDistinct (V.names_in (v1 vs))
listed μ [] h = absurd h
listed μ (v ∷ vs) h = fact_of sort_names μ v vs h

or_parts : (b c : Bool) → (b || c) ≡ false → (b ≡ false) × (c ≡ false)
or_parts true c e = cc
or_parts false c e = (refl, e)

or_false : (b c : Bool) → b ≡ false → c ≡ false → (b || c) ≡ false
or_false true c e k = cc
or_false false c e k = k

one_more : (ns : List Sym) (n : Sym) → AreDistinct ns → list_any (same_name n) ns ≡ false → AreDistinct (ns ++ n ∷ [])
one_more [] n h e = (refl, tt)
one_more (m ∷ ns) n h e =
    let k = or_parts (same_name n m) (list_any (same_name n) ns) e in
    (list_any-append (λ x. same_name x m) ns (n ∷ []) ∙ or_false (list_any (λ x. same_name x m) ns) (same_name n m || false) h.0 (or_false (same_name n m) false k.0 refl), one_more ns n h.1 k.1)

-- names that stand beneath are those of a value
names_seen : (v : Value) → type_of v ≡ names → V.seen v ≡ V.names_in v
names_seen (V.names ns) e = refl
names_seen (V.bindings bs) e = absurd (no_names bindings refl e)
  where
    no_names : (n : ℕ) → nat_eq n names ≡ false → n ≡ names → ⊥
    no_names n q p = no_path (sym (ap (λ (x : ℕ). nat_eq x names) p) ∙ q)
      where
        no_path : true ≡ false → ⊥
        no_path r = cc
names_seen _ e = refl

added : (μ : Types) (vs : List Value) → Fit (new_sort_name ∷ sort_names ∷ μ) vs → AreDistinct (V.names_in (v2 vs) ++ (V.name_in (v1 vs) ∷ []))
added μ [] h = absurd h
added μ (v ∷ []) h = absurd (below new_sort_name (sort_names ∷ μ) v [] h)
added μ (v ∷ w ∷ vs) h =
    let k = below new_sort_name (sort_names ∷ μ) v (w ∷ vs) h in
    one_more (V.names_in w) (V.name_in v) (fact_of sort_names μ w vs k) (subst (λ (ns : List Sym). list_any (same_name (V.name_in v)) ns ≡ false) (names_seen w (type_here w vs k)) (fact_of new_sort_name (sort_names ∷ μ) v (w ∷ vs) h))
  where
    type_here : (w : Value) (vs : List Value) → Fit (sort_names ∷ μ) (w ∷ vs) → type_of w ≡ names
    type_here w vs k = k.0

no_path : true ≡ false → ⊥
no_path p = cc

abbrev is_made : Effect → Bool
is_made (makes pre post) = plain post
is_made _ = false

-- what an action leaves is of these types
special : (x : Action) (vs : List Value) (σ ρ τ : Types) → is_made (effect x) ≡ false → Fit (σ ++ τ) vs → made accepts (effect x) σ ≡ Some ρ → Fit (ρ ++ τ) (act_on x vs)
special A.NoNames vs σ ρ τ p h e = one_made [] sort_names vs σ ρ τ (v1 (act_on A.NoNames vs)) refl (λ μ k. tt) h e
special A.OneName vs σ ρ τ p h e = elim (either_made sort_name (makes (sort_name ∷ []) (sort_names ∷ [])) (makes (name ∷ []) (names ∷ [])) σ ρ e) [
  | inl q ↦ one_made (sort_name ∷ []) sort_names vs σ ρ τ (v1 (act_on A.OneName vs)) refl (λ μ k. (refl, tt)) h q
  | inr q ↦ plain_does (name ∷ []) (names ∷ []) vs (act_on A.OneName vs) σ ρ τ refl (does_so vs A.OneName) (keeps_so vs A.OneName) h q
]
special A.AddName vs σ ρ τ p h e = elim (either_made new_sort_name (makes (new_sort_name ∷ sort_names ∷ []) (sort_names ∷ [])) (makes (name ∷ names ∷ []) (names ∷ [])) σ ρ e) [
  | inl q ↦ one_made (new_sort_name ∷ sort_names ∷ []) sort_names vs σ ρ τ (v1 (act_on A.AddName vs)) refl (λ μ k. added μ vs k) h q
  | inr q ↦ plain_does (name ∷ names ∷ []) (names ∷ []) vs (act_on A.AddName vs) σ ρ τ refl (does_so vs A.AddName) (keeps_so vs A.AddName) h q
]
special A.NoParameters vs σ ρ τ p h e = one_made [] parameters vs σ ρ τ (v1 (act_on A.NoParameters vs)) refl (λ μ k. tt) h e
special A.Parameters vs σ ρ τ p h e = one_made (sort_names ∷ place ∷ parameters ∷ []) parameters vs σ ρ τ (v1 (act_on A.Parameters vs)) refl (λ μ k. listed (place ∷ parameters ∷ μ) vs k) h e
special A.Unnamed vs σ ρ τ p h e = settled_does [] (label ∷ []) vs (act_on A.Unnamed vs) σ ρ τ refl (does_so vs A.Unnamed) (keeps_so vs A.Unnamed) h e
special A.AddBinder vs σ ρ τ p h e = settled_does (name ∷ binders ∷ []) (binders ∷ []) vs (act_on A.AddBinder vs) σ ρ τ refl (does_so vs A.AddBinder) (keeps_so vs A.AddBinder) h e
special A.NoArguments vs σ ρ τ p h e = settled_does [] (sorts ∷ []) vs (act_on A.NoArguments vs) σ ρ τ refl (does_so vs A.NoArguments) (keeps_so vs A.NoArguments) h e
special A.Declare vs σ ρ τ p h e = one_made (sort ∷ sorts ∷ parameters ∷ names ∷ place ∷ []) directive vs σ ρ τ (v1 (act_on A.Declare vs)) refl (λ μ k. third sort sorts (names ∷ place ∷ μ) vs k) h e
special A.Domain vs σ ρ τ p h e = one_made (sort_names ∷ name ∷ place ∷ []) directive vs σ ρ τ (v1 (act_on A.Domain vs)) refl (λ μ k. tt) h e
special A.Datatype vs σ ρ τ p h e = one_made (constructors ∷ sort_names ∷ name ∷ place ∷ []) directive vs σ ρ τ (v1 (act_on A.Datatype vs)) refl (λ μ k. tt) h e
special A.Define vs σ ρ τ p h e = one_made (phrase ∷ name ∷ place ∷ []) directive vs σ ρ τ (v1 (act_on A.Define vs)) refl (λ μ k. tt) h e
special A.DefineFun vs σ ρ τ p h e = one_made (phrase ∷ names ∷ name ∷ place ∷ []) directive vs σ ρ τ (v1 (act_on A.DefineFun vs)) refl (λ μ k. tt) h e
special A.Assert vs σ ρ τ p h e = one_made (phrase ∷ label ∷ place ∷ []) directive vs σ ρ τ (v1 (act_on A.Assert vs)) refl (λ μ k. tt) h e
special A.AssertClosed vs σ ρ τ p h e = one_made (phrase ∷ label ∷ place ∷ []) directive vs σ ρ τ (v1 (act_on A.AssertClosed vs)) refl (λ μ k. tt) h e
special A.Load vs σ ρ τ p h e = one_made (text ∷ place ∷ []) directive vs σ ρ τ (v1 (act_on A.Load vs)) refl (λ μ k. tt) h e
special A.Say vs σ ρ τ p h e = one_made (phrase ∷ []) directive vs σ ρ τ (v1 (act_on A.Say vs)) refl (λ μ k. tt) h e
special A.SayAt vs σ ρ τ p h e = one_made (phrase ∷ place ∷ []) directive vs σ ρ τ (v1 (act_on A.SayAt vs)) refl (λ μ k. tt) h e
special _ vs σ ρ τ p h e = absurd (no_path p)

one_effect : (f : Effect) (vs ws : List Value) (σ ρ τ : Types) → is_made f ≡ true → types ws ≡ acts_on f (types vs) → remains f ws ≡ was f vs → Fit (σ ++ τ) vs → made accepts f σ ≡ Some ρ → Fit (ρ ++ τ) ws
one_effect (makes pre post) vs ws σ ρ τ p q r h e = plain_does pre post vs ws σ ρ τ p q r h e
one_effect (beneath pre post) vs ws σ ρ τ p q r h e = cc
one_effect (by_newest t f g) vs ws σ ρ τ p q r h e = cc
one_effect never vs ws σ ρ τ p q r h e = cc

does : (x : Action) (vs : List Value) (σ ρ τ : Types) → Fit (σ ++ τ) vs → made accepts (effect x) σ ≡ Some ρ → Fit (ρ ++ τ) (act_on x vs)
does x vs σ ρ τ h e = go (is_made (effect x)) refl
  where
    go : (b : Bool) → is_made (effect x) ≡ b → Fit (ρ ++ τ) (act_on x vs)
    go true p = one_effect (effect x) vs (act_on x vs) σ ρ τ p (does_so vs x) (keeps_so vs x) h e
    go false p = special x vs σ ρ τ p h e

no_directive : (n : ℕ) → nat_eq n directive ≡ false → n ≡ directive → ⊥
no_directive n q e = no_path (sym (ap (λ (m : ℕ). nat_eq m directive) e) ∙ q)
  where
    no_path : true ≡ false → ⊥
    no_path p = cc

only_directive : (ws : List Value) → Fit (directive ∷ []) ws → (d : DirectiveTree) × (ws ≡ a_directive d ∷ []) × DirectiveDiffers d
only_directive [] h = absurd h
only_directive (v ∷ w ∷ ws) h = absurd (below directive [] v (w ∷ ws) h)
only_directive (V.a_directive d ∷ []) h = (d, refl, fact_of directive [] (V.a_directive d) [] h)
only_directive (V.a_place p ∷ []) h = absurd (no_directive _ refl h.0)
only_directive (V.a_name p n ∷ []) h = absurd (no_directive _ refl h.0)
only_directive (V.a_variable p x k ∷ []) h = absurd (no_directive _ refl h.0)
only_directive (V.a_text p s ∷ []) h = absurd (no_directive _ refl h.0)
only_directive (V.a_sort s ∷ []) h = absurd (no_directive _ refl h.0)
only_directive (V.sorts ss ∷ []) h = absurd (no_directive _ refl h.0)
only_directive (V.a_pattern p ∷ []) h = absurd (no_directive _ refl h.0)
only_directive (V.patterns ps ∷ []) h = absurd (no_directive _ refl h.0)
only_directive (V.names ns ∷ []) h = absurd (no_directive _ refl h.0)
only_directive (V.a_phrase x ∷ []) h = absurd (no_directive _ refl h.0)
only_directive (V.phrases xs ∷ []) h = absurd (no_directive _ refl h.0)
only_directive (V.bindings bs ∷ []) h = absurd (no_directive _ refl h.0)
only_directive (V.clauses cs ∷ []) h = absurd (no_directive _ refl h.0)
only_directive (V.branches bs ∷ []) h = absurd (no_directive _ refl h.0)
only_directive (V.label n ∷ []) h = absurd (no_directive _ refl h.0)
only_directive (V.binders bs ∷ []) h = absurd (no_directive _ refl h.0)
only_directive (V.constructors cs ∷ []) h = absurd (no_directive _ refl h.0)
only_directive (V.parameters vs ∷ []) h = absurd (no_directive _ refl h.0)

-- what a directive's symbol comes to
abbrev pub Spelled : Bool → List Placed → List Value → List Placed → Type 0
Spelled a ts vs r = Spells trees grammar a directive_items [] ts vs r

left_over : (a : Bool) (ts : List Placed) (ws : List Value) (r : List Placed) → Spelled a ts ws r → Fit (directive ∷ []) ws
left_over a ts ws r h = left accepts save_types effect signature grammar rows_keep trees Fit free saves does loosen a directive_items [] ts ws r h [] (directive ∷ []) [] tt refl

-- is one directive
pub as_directive : (a : Bool) (ts : List Placed) (ws : List Value) (r : List Placed) → Spelled a ts ws r → (d : DirectiveTree) × SpellsDirective a ts d r
as_directive a ts ws r h =
    let k = only_directive ws (left_over a ts ws r h) in
    (k.0, subst (λ (vs : List Value). Spelled a ts vs r) k.1 h)

-- and what a `declare` lists differs
pub declared_differ : (a : Bool) (ts : List Placed) (d : DirectiveTree) (r : List Placed) → SpellsDirective a ts d r → DirectiveDiffers d
declared_differ a ts d r h = fact_of directive [] (V.a_directive d) [] (left_over a ts (a_directive d ∷ []) r h)
