use Rattle.ath_sorts.specs.Signature.{Signature}
use Rattle.std.proofs.Common.{◌≡◌, true, take}
use Rattle.std.specs.List.{list_all}
use Rattle.ath_sorts.specs.Sorts.{image}
use Rattle.ath_terms.specs.SortsIn.{IsSortedIn}
use Rattle.ath_construction.proofs.ConnectiveLaws.{is_within}
use Rattle.ath_construction.proofs.connectives.are_sents_within.Given as goal

abbrev pub invariant-loop-i : goal.invariant-loop-i
invariant-loop-i l = (sig : Signature) → IsSortedIn sig l.store → list_all (is_within sig (image l.subst) l.store.sents) (take l.i l.parts) ≡ true
