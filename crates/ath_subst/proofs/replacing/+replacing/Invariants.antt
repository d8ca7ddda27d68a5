use Rattle.std.proofs.Common.{◌*◌, ◌+◌, ◌≡◌, take}
use Rattle.ath_sorts.specs.Signature.{Signature}
use Rattle.ath_terms.specs.Lists.{AreSents}
use Rattle.ath_terms.specs.SortsIn.{IsSortedIn}
use Rattle.ath_terms.specs.Trees.{term_at, sort_at, sent_at, Grows}
use Rattle.ath_trees.specs.Measure.{sent_depth}
use Rattle.ath_trees.specs.Substitution.{subst_sent}
use Rattle.ath_subst.proofs.SameLaws.{Stay, AreSame}
use Rattle.ath_subst.proofs.SentLaws.{sent_images}
use Rattle.ath_subst.proofs.replacing.+replacing.Given as goal

abbrev pub decreases-put_sent : goal.decreases-put_sent
decreases-put_sent l = 2 * sent_depth (sent_at l.store.now.sents l.p.0) + 1

abbrev pub decreases-put_node : goal.decreases-put_node
decreases-put_node l = 2 * sent_depth (sent_at l.store.now.sents l.p.0)

abbrev pub invariant-put_node-loop-i : goal.invariant-put_node-loop-i
invariant-put_node-loop-i l = record {
  grows : Grows l.fn.store l.store;
  parts : AreSents l.store l.parts (sent_images (subst_sent l.x (term_at l.fn.store.terms l.by.0)) l.fn.store (take l.i l.from));
  same : Stay (λ j. subst_sent l.x (term_at l.fn.store.terms l.by.0) (sent_at l.fn.store.sents j.0)) (λ j. sent_at l.fn.store.sents j.0) l.from (record { 0 = 0 }) l.i → AreSame l.fn.store l.store l.parts (take l.i l.from);
  sorted : (sig : Signature) → IsSortedIn sig l.fn.store → sort_at l.fn.store.sorts l.by.0 ≡ l.x.sort → IsSortedIn sig l.store;
}
