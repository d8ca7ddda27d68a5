use Rattle.std.proofs.Common.{◌*◌, ◌+◌, ◌≡◌, true, take}
use Rattle.ath_sorts.specs.Signature.{Signature}
use Rattle.ath_sorts.specs.Sorts.{image}
use Rattle.ath_sorts.specs.declared.sorts.SVar.{SVar}
use Rattle.ath_terms.specs.Lists.{AreSents}
use Rattle.ath_terms.specs.SortsIn.{IsSortedIn}
use Rattle.ath_terms.specs.Trees.{sent_at, Grows}
use Rattle.ath_trees.specs.Measure.{sent_depth}
use Rattle.ath_trees.specs.SortUnder.{sent_at_sorts}
use Rattle.ath_trees.specs.WellSorted.{is_valid_sort}
use Rattle.ath_subst.proofs.SameLaws.{Stay, AreSame}
use Rattle.ath_subst.proofs.SentLaws.{sent_images}
use Rattle.ath_subst.proofs.sentences.+renewing.Given as goal

abbrev pub decreases-renewed_sent : goal.decreases-renewed_sent
decreases-renewed_sent l = 2 * sent_depth (sent_at l.store.now.sents l.p.0) + 1

abbrev pub decreases-renewed_node : goal.decreases-renewed_node
decreases-renewed_node l = 2 * sent_depth (sent_at l.store.now.sents l.p.0)

abbrev pub invariant-renewed_node-loop-i : goal.invariant-renewed_node-loop-i
invariant-renewed_node-loop-i l = record {
  grows : Grows l.fn.store l.store;
  parts : AreSents l.store l.parts (sent_images (sent_at_sorts (image l.subst)) l.fn.store (take l.i l.from));
  same : (sig : Signature) → IsSortedIn sig l.fn.store → Stay (λ j. sent_at_sorts (image l.subst) (sent_at l.fn.store.sents j.0)) (λ j. sent_at l.fn.store.sents j.0) l.from (record { 0 = 0 }) l.i → AreSame l.fn.store l.store l.parts (take l.i l.from);
  sorted : (sig : Signature) → IsSortedIn sig l.fn.store → ((v : SVar) → is_valid_sort sig (image l.subst v) ≡ true) → IsSortedIn sig l.store;
}
