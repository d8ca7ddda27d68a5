use Rattle.std.proofs.Common.{◌≡◌, ◌≤◌, length}
use Rattle.ath_terms.specs.Trees.{sent_at}
use Rattle.ath_base.specs.Base.{holds}
use Rattle.ath_base.specs.Stands.{entries_in, entries_of}
use Rattle.ath_base.proofs.base.Base.holds.Given as goal

abbrev pub invariant-loop-left : goal.invariant-loop-left
invariant-loop-left l = record {
  below : l.left ≤ length l.nodes;
  same : holds (entries_of l.store (entries_in l.fn.self.nodes.items l.fn.scope.0)) (sent_at l.store.sents l.p.0) ≡ holds (entries_of l.store (entries_in l.nodes l.left)) (sent_at l.store.sents l.p.0);
}

abbrev pub decreases-loop-left : goal.decreases-loop-left
decreases-loop-left l = l.left
