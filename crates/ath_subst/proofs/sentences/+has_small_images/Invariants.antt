use Rattle.ath_sorts.specs.Signature.{Signature}
use Rattle.ath_sorts.specs.Sorts.{image}
use Rattle.std.proofs.Common.{◌≡◌, true, take}
use Rattle.ath_terms.specs.SortsIn.{IsSortedIn}
use Rattle.ath_subst.proofs.WithinLaws.{sents_within}
use Rattle.ath_subst.proofs.sentences.+has_small_images.Given as goal

abbrev pub decreases-has_small_images : goal.decreases-has_small_images
decreases-has_small_images l = l.p.0

abbrev pub invariant-loop-i : goal.invariant-loop-i
invariant-loop-i l = (sig : Signature) → IsSortedIn sig l.store → sents_within sig (image l.subst) l.store.sents (take l.i l.parts) ≡ true
