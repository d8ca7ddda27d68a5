use Rattle.ath_sorts.specs.Signature.{Signature}
use Rattle.ath_sorts.specs.Sorts.{image}
use Rattle.std.proofs.Common.{◌≡◌, true, take}
use Rattle.ath_terms.specs.SortsIn.{IsSortedIn}
use Rattle.ath_subst.proofs.WithinLaws.{terms_within}
use Rattle.ath_construction.proofs.application.are_terms_within.Given as goal

abbrev pub invariant-loop-i : goal.invariant-loop-i
invariant-loop-i l = (sig : Signature) → IsSortedIn sig l.store → terms_within sig (image l.subst) l.store.terms (take l.i l.args) ≡ true
