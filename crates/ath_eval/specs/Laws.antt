-- Laws of evaluation.
use Rattle.std.specs.Prelude.{◌≡◌, ℕ, ◌+◌, ◌≤◌, List, Some}
use Rattle.ath_syntax.specs.declared.place.Pos.{Pos}
use Rattle.ath_sorts.specs.declared.sorts.Sort.{Sort}
use Rattle.ath_sorts.specs.Signature.{Signature, arity_of}
use Rattle.ath_sorts.specs.Validity.{IsValid}
use Rattle.ath_syntax.specs.Tree.{Phrase}
use Rattle.ath_trees.specs.Tree.{Term, Sent}
use Rattle.ath_terms.specs.Trees.{Trees}
use Rattle.ath_terms.specs.SortsIn.{IsSortedIn}
use Rattle.ath_terms.specs.declared.fresh.Fresh.{Fresh}
use Rattle.ath_trees.specs.WellSorted.{HasSort, IsWellSorted}
use Rattle.ath_calculus.specs.Derives.{Derives, AreDerivable}
use Rattle.ath_calculus.specs.Laws.{Extends}
use Rattle.ath_calculus.specs.Theory.{Theory}
use Rattle.ath_env.specs.Values.{Value, a_term, a_sentence, a_symbol, a_connective, a_quantifier, a_back, a_method}
use Rattle.ath_base.specs.Base.{sentences}
use Rattle.ath_eval.specs.Outcomes.{Context, Environment, Left, Outcome, gives, concludes, fails, exhausts}
use Rattle.ath_eval.specs.Evaluation.{evaluated}
use Rattle.ath_eval.specs.Room.{charged, IsBelow, IsNarrow}

-- a conclusion is derivable where each sentence of the base is
abbrev pub ConclusionsFollow : Type 0
ConclusionsFollow =
    (c : Context) (env : Environment) (asserted hyps : List Sent) (levels : ℕ) (x : Phrase) (left after : Left) (q : Sent)
    → AreDerivable c.theory asserted hyps (sentences env.base) → evaluated c levels env x left ≡ concludes q after
    → Derives c.theory asserted hyps q

-- a term has its sort, and a sentence is well-sorted
abbrev pub IsSortedValue : Signature → Value → Type 0
IsSortedValue sig (a_term t r) = HasSort sig t r
IsSortedValue sig (a_sentence p) = IsWellSorted sig p
IsSortedValue sig (a_symbol f) = Unit {0}
IsSortedValue sig (a_connective k) = Unit {0}
IsSortedValue sig (a_quantifier q) = Unit {0}
IsSortedValue sig a_back = Unit {0}
IsSortedValue sig (a_method n) = Unit {0}

-- what an outcome gives is well-sorted, where the sort Boolean is there
abbrev pub ValuesAreSorted : Type 0
ValuesAreSorted =
    (c : Context) (env : Environment) (asserted hyps : List Sent) (levels : ℕ) (x : Phrase) (left after : Left) (v : Value)
    → IsValid c.theory.signature → arity_of c.theory.signature (record { 0 = 0 }) ≡ Some 0
    → AreDerivable c.theory asserted hyps (sentences env.base) → evaluated c levels env x left ≡ gives v after
    → IsSortedValue c.theory.signature v

-- so much more fuel is left
abbrev pub more_left : ℕ → Left → Left
more_left k left = record left { fuel = left.fuel + k }

-- the same outcome, after which so much more fuel is left; where it is exhausted nothing is
abbrev pub with_more : ℕ → Outcome → Outcome
with_more k (gives v left) = gives v (more_left k left)
with_more k (concludes p left) = concludes p (more_left k left)
with_more k (fails at why left) = fails at why (more_left k left)
with_more k (exhausts at made) = exhausts at made

-- with more fuel, an outcome that isn't exhausted is the same, and as much more is left
abbrev pub MoreFuel : Type 0
MoreFuel =
    (c : Context) (env : Environment) (levels : ℕ) (x : Phrase) (k : ℕ) (left : Left)
    → ((at : Pos) (made : Fresh) → evaluated c levels env x left ≡ exhausts at made → ⊥)
    → evaluated c levels env x (more_left k left) ≡ with_more k (evaluated c levels env x left)

-- fuel never rises, and the counters never fall
abbrev pub Spends : Left → Outcome → Type 0
Spends left (gives v after) = (after.fuel ≤ left.fuel) × (left.fresh.var ≤ after.fresh.var) × (left.fresh.sort ≤ after.fresh.sort)
Spends left (concludes p after) = (after.fuel ≤ left.fuel) × (left.fresh.var ≤ after.fresh.var) × (left.fresh.sort ≤ after.fresh.sort)
Spends left (fails at why after) = (after.fuel ≤ left.fuel) × (left.fresh.var ≤ after.fresh.var) × (left.fresh.sort ≤ after.fresh.sort)
Spends left (exhausts at made) = (left.fresh.var ≤ made.var) × (left.fresh.sort ≤ made.sort)

abbrev pub FuelNeverRises : Type 0
FuelNeverRises = (c : Context) (env : Environment) (levels : ℕ) (x : Phrase) (left : Left) → Spends left (evaluated c levels env x left)

-- the counters stay within these bounds, also when each step that is left takes all that it may
abbrev pub StaysWithin : Fresh → Outcome → Type 0
StaysWithin bound (gives v left) = IsBelow (charged left.fuel left.fresh) bound
StaysWithin bound (concludes p left) = IsBelow (charged left.fuel left.fresh) bound
StaysWithin bound (fails at why left) = IsBelow (charged left.fuel left.fresh) bound
StaysWithin bound (exhausts at made) = IsBelow made bound

-- a step takes few of either
abbrev pub StepsTakeFew : Type 0
StepsTakeFew =
    (c : Context) (env : Environment) (levels : ℕ) (x : Phrase) (left : Left) (bound : Fresh) → IsNarrow c.theory.signature
    → IsBelow (charged left.fuel left.fresh) bound → StaysWithin bound (evaluated c levels env x left)

-- what is well-sorted in the one theory, or derivable in it, is so in the other
pub record Carries (old new : Theory) : Type 0 where
  pub terms : (t : Term) (s : Sort) → HasSort old.signature t s → HasSort new.signature t s
  pub sents : (p : Sent) → IsWellSorted old.signature p → IsWellSorted new.signature p
  pub values : (v : Value) → IsSortedValue old.signature v → IsSortedValue new.signature v
  pub derivations : (asserted hyps : List Sent) (p : Sent) → Derives old asserted hyps p → Derives new asserted hyps p
  pub stores : IsValid new.signature → (s : Trees) → IsSortedIn old.signature s → IsSortedIn new.signature s

-- theories grow
abbrev pub TheoriesGrow : Type 0
TheoriesGrow = (old new : Theory) → Extends old new → Carries old new
