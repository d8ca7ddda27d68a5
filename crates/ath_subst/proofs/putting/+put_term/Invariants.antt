use Rattle.std.proofs.Common.{◌≡◌, take}
use Rattle.ath_sorts.specs.Signature.{Signature}
use Rattle.ath_terms.specs.Lists.{AreTerms}
use Rattle.ath_terms.specs.SortsIn.{IsSortedIn}
use Rattle.ath_terms.specs.Trees.{term_at, sort_at, Grows}
use Rattle.ath_subst.proofs.PuttingLaws.{put_images, img}
use Rattle.ath_subst.proofs.SameLaws.{Stay, AreSame}
use Rattle.ath_subst.proofs.putting.+put_term.Given as goal

abbrev pub decreases-put_term : goal.decreases-put_term
decreases-put_term l = l.t.0

abbrev pub invariant-loop-i : goal.invariant-loop-i
invariant-loop-i l = record {
  grows : Grows l.fn.store l.store;
  parts : AreTerms l.store l.parts (put_images l.x l.fn.store l.by.0 (take l.i l.ids));
  same : Stay (img l.fn.store l.x l.by.0) (λ j. term_at l.fn.store.terms j.0) l.ids (record { 0 = 0 }) l.i → AreSame l.fn.store l.store l.parts (take l.i l.ids);
  sorted : (sig : Signature) → IsSortedIn sig l.fn.store → sort_at l.fn.store.sorts l.by.0 ≡ l.x.sort → IsSortedIn sig l.store;
}
