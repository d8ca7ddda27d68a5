use Rattle.std.proofs.Common.{◌+◌, ◌*◌, take}
use Rattle.ath_sorts.specs.Signature.{Signature}
use Rattle.ath_terms.specs.Lists.{AreSents}
use Rattle.ath_terms.specs.SortsIn.{IsSortedIn}
use Rattle.ath_terms.specs.Trees.{sent_at, Grows}
use Rattle.ath_trees.specs.Renamed.{renamed}
use Rattle.ath_subst.proofs.SameLaws.{Stay, AreSame}
use Rattle.ath_subst.proofs.SentLaws.{sent_images}
use Rattle.ath_subst.proofs.renaming.+renaming.Given as goal

abbrev pub decreases-renamed_sent : goal.decreases-renamed_sent
decreases-renamed_sent l = 2 * l.p.0 + 1

abbrev pub decreases-renamed_node : goal.decreases-renamed_node
decreases-renamed_node l = 2 * l.p.0

abbrev pub invariant-renamed_node-loop-i : goal.invariant-renamed_node-loop-i
invariant-renamed_node-loop-i l = record {
  grows : Grows l.fn.store l.store;
  parts : AreSents l.store l.parts (sent_images (renamed l.y l.z) l.fn.store (take l.i l.from));
  same : Stay (λ j. renamed l.y l.z (sent_at l.fn.store.sents j.0)) (λ j. sent_at l.fn.store.sents j.0) l.from (record { 0 = 0 }) l.i → AreSame l.fn.store l.store l.parts (take l.i l.from);
  sorted : (sig : Signature) → IsSortedIn sig l.fn.store → IsSortedIn sig l.store;
}
