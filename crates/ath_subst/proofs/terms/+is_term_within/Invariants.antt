use Rattle.ath_sorts.specs.Signature.{Signature}
use Rattle.ath_sorts.specs.Sorts.{image}
use Rattle.std.proofs.Common.{◌≡◌, true, take}
use Rattle.ath_terms.specs.SortsIn.{IsSortedIn}
use Rattle.ath_subst.proofs.WithinLaws.{terms_within}
use Rattle.ath_subst.proofs.terms.+is_term_within.Given as goal

abbrev pub decreases-is_term_within : goal.decreases-is_term_within
decreases-is_term_within l = l.t.0

abbrev pub invariant-loop-i : goal.invariant-loop-i
invariant-loop-i l = (sig : Signature) → IsSortedIn sig l.store → terms_within sig (image l.subst) l.store.terms (take l.i l.parts) ≡ true
