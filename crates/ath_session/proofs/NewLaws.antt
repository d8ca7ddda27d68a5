-- A new session.
use Rattle.std.proofs.Common.{◌≡◌, ℕ, ◌==◌, ◌<◌, ◌≤◌, Bool, true, false, cond, [], length, Option, Some, None, refl, sym, ap, subst, arith}
use Rattle.ath_sorts.specs.declared.sorts.Sym.{Sym}
use Rattle.ath_sorts.specs.declared.signature.Symbol.{Symbol}
use Rattle.ath_sorts.specs.Signature.{Signature, initial, truth_value}
use Rattle.ath_sorts.proofs.ValidityLaws.{initial_valid}
use Rattle.ath_terms.specs.declared.fresh.Fresh.{Fresh}
use Rattle.ath_terms.specs.Trees.{Trees}
use Rattle.ath_terms.specs.SortsIn.{IsSortedIn}
use Rattle.ath_eval.specs.Room.{IsRoomy, IsNarrow}

none_below : (k : ℕ) → k < 0 → ⊥
none_below k h = omega (arith, h)

pub new_sorted : (sig : Signature) (s : Trees) → sig ≡ initial → s ≡ record { terms = []; sorts = []; sents = [] } → IsSortedIn sig s
new_sorted sig s e f = subst (λ (g : Signature). IsSortedIn g s) (sym e) (subst (λ (t : Trees). IsSortedIn initial t) (sym f) (record {
  valid = initial_valid;
  boolean_there = refl;
  terms = λ k l. absurd (none_below k l);
  sents = λ k l. absurd (none_below k l);
}))

pub new_roomy : (fuel : ℕ) (fresh : Fresh) → fuel ≤ 1000000000 → fresh ≡ record { var = 1; sort = 1 } → IsRoomy fuel fresh
new_roomy fuel fresh h e = (omega (arith, h, ap (λ (f : Fresh). f.var) e), omega (arith, h, ap (λ (f : Fresh). f.sort) e))

truth_narrow : (n f : Sym) (o : Option Symbol) (d : Symbol) → (o ≡ Some d → length d.params ≤ 64) → cond (n.0 == f.0) (Some (truth_value n)) o ≡ Some d → length d.params ≤ 64
truth_narrow n f o d rest e = by (n.0 == f.0) e
  where
    by : (b : Bool) → cond b (Some (truth_value n)) o ≡ Some d → length d.params ≤ 64
    by true e = let same : truth_value n ≡ d = cc in subst (λ (s : Symbol). length s.params ≤ 64) same (omega arith)
    by false e = rest e

pub new_narrow : (sig : Signature) → sig ≡ initial → IsNarrow sig
new_narrow sig e = subst IsNarrow (sym e) (λ f d h. truth_narrow (record { 0 = 1 }) f _ d (λ k. truth_narrow (record { 0 = 2 }) f None d (λ w. absurd (cc)) k) h)
