use Rattle.std.proofs.Common.{◌≡◌, ◌+◌, ◌<◌, ◌≤◌, length}
use Rattle.ath_trees.specs.declared.node.Binary.{Binary}
use Rattle.ath_trees.specs.Measure.{sent_depth}
use Rattle.ath_construction.proofs.GroupLaws.{group_from}
use Rattle.ath_construction.proofs.connectives.grouped_depth.Given as goal

abbrev pub invariant-loop-i : goal.invariant-loop-i
invariant-loop-i l = record {
  inside : l.i < length l.parts;
  levels : (c : Binary) → l.levels ≡ sent_depth (group_from l.store.sents c l.parts l.i);
  room : l.levels + l.i ≤ 2000 + length l.parts;
}

abbrev pub decreases-loop-i : goal.decreases-loop-i
decreases-loop-i l = l.i
