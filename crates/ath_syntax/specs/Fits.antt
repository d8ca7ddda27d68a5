-- Which nodes may be added, by the nodes that are there: their parts are of the kinds that the grammar gives, lists
-- aren't empty and names differ where they must, and no node has more than 4194304 parts and names.
use Rattle.std.specs.Prelude.{◌≡◌, ℕ, ◌+◌, ◌*◌, ◌<◌, ◌≤◌, List, length, map, take, Bool, true, false, not, Option, Some, None, All, slice_get}
use Rattle.std.specs.List.{IsDistinct, filter}
use Rattle.ath_sorts.specs.declared.sorts.Sym.{Sym}
use Rattle.ath_syntax.specs.declared.node.PhraseId.{PhraseId}
use Rattle.ath_syntax.specs.declared.node.PatId.{PatId}
use Rattle.ath_syntax.specs.declared.node.Form.{Form}
use Rattle.ath_syntax.specs.declared.node.Form.TheVariants.{Name, Var, Str, List as Listed, Ascribe, Apply, Call, Lambda, Method, Let, LetRec, Match, Check, Try, Seq, Assume, Absurd, PickAny, PickWitness, Induct, Cases, Conclude}
use Rattle.ath_syntax.specs.declared.node.Node.{Node}
use Rattle.ath_syntax.specs.declared.node.PatNode.{PatNode}
use Rattle.ath_syntax.specs.declared.node.PatNode.TheVariants.{Any, Name as PatName, Str as PatStr, List as PatList, ListOf, App, Some as SomeOf}
use Rattle.ath_syntax.specs.Nodes.{Nodes, kind_at}
use Rattle.ath_syntax.specs.Size.{patterns_size}
use Rattle.ath_syntax.specs.Stands.{ArePatterns}
use Rattle.ath_syntax.specs.Tree.{Patterns, same_name}

abbrev pub most : ℕ
most = 4194304

abbrev pub IsPart : Nodes → PhraseId → Type 0
IsPart s i = i.0 < length s.phrases

-- the number is that of a phrase of this kind: true for deductions, false for expressions
abbrev pub IsKind : Nodes → Bool → PhraseId → Type 0
IsKind s d i = kind_at s i ≡ Some d

-- a binding of a `let` is a deduction only where the `let` is one
abbrev pub IsBound : Nodes → Bool → PhraseId → Type 0
IsBound s true i = IsPart s i
IsBound s false i = IsKind s false i

abbrev pub is_closure_form : Form → Bool
is_closure_form (Lambda xs i) = true
is_closure_form (Method xs i) = true
is_closure_form f = false

abbrev pub is_closure : Option Node → Bool
is_closure None = false
is_closure (Some n) = is_closure_form n.form

-- a `lambda` or a `method`
abbrev pub IsClosure : Nodes → PhraseId → Type 0
IsClosure s i = is_closure (slice_get s.phrases i.0) ≡ true

-- one name, `_`, may stand for any parameter
pub record ParamsDiffer (xs : List Sym) : Type 0 where
  pub wild : Sym
  pub others : IsDistinct same_name (filter (λ x. not (same_name wild x)) xs)

-- clauses of this kind, whose patterns stand for trees
pub record ClausesFit (s : Nodes) (d : Bool) (cs : List (PatId × PhraseId)) : Type 0 where
  pub some : 0 < length cs
  pub kind : All (λ c. IsKind s d c.1) cs
  pub trees : Patterns
  pub patterns : ArePatterns s.patterns (map (λ c. c.0) cs) trees
  pub size : 1 + length cs + patterns_size trees ≤ most

abbrev pub OtherwiseFits : Nodes → Bool → Option PhraseId → Type 0
OtherwiseFits s d None = Unit {0}
OtherwiseFits s d (Some i) = IsKind s d i

abbrev pub otherwise_size : Option PhraseId → ℕ
otherwise_size None = 0
otherwise_size (Some i) = 1

-- the form may stand in a node of this kind
abbrev pub FitsForm : Nodes → Bool → Form → Type 0
FitsForm s d (Name x) = d ≡ false
FitsForm s d (Var x k o) = d ≡ false
FitsForm s d (Str b) = d ≡ false
FitsForm s d (Listed is) = (d ≡ false) × All (IsKind s false) is × (length is ≤ most)
FitsForm s d (Ascribe i o) = (d ≡ false) × IsKind s false i
FitsForm s d (Apply i is) = (d ≡ false) × IsKind s false i × All (IsKind s false) is × (1 + length is ≤ most)
FitsForm s d (Call i is) = (d ≡ true) × IsKind s false i × All (IsPart s) is × (1 + length is ≤ most)
FitsForm s d (Lambda xs i) = (d ≡ false) × ParamsDiffer xs × IsKind s false i × (1 + length xs ≤ most)
FitsForm s d (Method xs i) = (d ≡ false) × ParamsDiffer xs × IsKind s true i × (1 + length xs ≤ most)
FitsForm s d (Let bs i) = IsKind s d i × (0 < length bs) × All (λ b. IsBound s d b.1) bs × (1 + 2 * length bs ≤ most)
FitsForm s d (LetRec bs i) = IsKind s d i × (0 < length bs) × All (λ b. IsClosure s b.1) bs × IsDistinct same_name (map (λ b. b.0) bs) × (1 + 2 * length bs ≤ most)
FitsForm s d (Match i cs) = IsKind s false i × ClausesFit s d cs
FitsForm s d (Check bs o) = (0 < length bs) × All (λ b. IsKind s false b.0 × IsKind s d b.1) bs × OtherwiseFits s d o × (otherwise_size o + 2 * length bs ≤ most)
FitsForm s d (Try is) = (0 < length is) × All (IsKind s d) is × (length is ≤ most)
FitsForm s d (Seq is) = (d ≡ true) × (0 < length is) × All (IsKind s true) is × (length is ≤ most)
FitsForm s d (Assume x i j) = (d ≡ true) × IsKind s false i × IsKind s true j
FitsForm s d (Absurd x i j) = (d ≡ true) × IsKind s false i × IsKind s true j
FitsForm s d (PickAny xs i) = (d ≡ true) × IsKind s true i × (1 + length xs ≤ most)
FitsForm s d (PickWitness x i j) = (d ≡ true) × IsPart s i × IsKind s true j
FitsForm s d (Induct i cs) = (d ≡ true) × IsKind s false i × ClausesFit s true cs
FitsForm s d (Cases i cs) = (d ≡ true) × IsKind s false i × ClausesFit s true cs
FitsForm s d (Conclude x i j) = (d ≡ true) × IsKind s false i × IsKind s true j

abbrev pub Fits : Nodes → Node → Type 0
Fits s n = FitsForm s n.deduction n.form

-- the numbers of the names `some-var`, `some-term`, `some-sent` and `some-list`
abbrev pub IsSomeWord : Sym → Type 0
IsSomeWord k = (17 ≤ k.0) × (k.0 ≤ 20)

abbrev pub IsPatternPart : List PatNode → PatId → Type 0
IsPatternPart nodes i = i.0 < length nodes

abbrev pub PatternFits : List PatNode → PatNode → Type 0
PatternFits nodes Any = Unit {0}
PatternFits nodes (PatName x) = Unit {0}
PatternFits nodes (PatStr b) = Unit {0}
PatternFits nodes (PatList is) = All (IsPatternPart nodes) is
PatternFits nodes (ListOf i j) = IsPatternPart nodes i × IsPatternPart nodes j
PatternFits nodes (App x is) = All (IsPatternPart nodes) is
PatternFits nodes (SomeOf k x) = IsSomeWord k

-- the phrases before a number, and all patterns
abbrev pub before : Nodes → ℕ → Nodes
before s i = record { phrases = take i s.phrases; patterns = s.patterns }

-- every node fits those before it, so that its parts have smaller numbers
pub record NodesFit (s : Nodes) : Type 0 where
  pub phrase : (i : ℕ) (n : Node) → slice_get s.phrases i ≡ Some n → Fits (before s i) n
  pub pattern : (i : ℕ) (n : PatNode) → slice_get s.patterns i ≡ Some n → PatternFits (take i s.patterns) n
