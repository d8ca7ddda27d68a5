use Rattle.std.proofs.Common.{◌≡◌, ◌+◌, ◌-◌, max, List, map, sum, drop}
use Rattle.ath_sorts.specs.declared.sorts.Sort.{Sort}
use Rattle.ath_sorts.specs.Sorts.{size_of, depth_of, greatest}
use Rattle.ath_unifiers.specs.Graphs.{AllUnfold}
use Rattle.ath_unifiers.proofs.graph.Graph.+nodes_left.Given as goal

abbrev pub decreases-nodes_left : goal.decreases-nodes_left
decreases-nodes_left l = l.depth

abbrev pub invariant-loop-child : goal.invariant-loop-child
invariant-loop-child l = (ts : List Sort) → AllUnfold l.self l.children ts →
    (l.left + sum (map size_of ts) + 1 ≡ l.budget + sum (map size_of (drop l.child-index ts)))
    × (max (l.depth - 1) (greatest (map depth_of ts)) ≡ max (l.depth - 1) (greatest (map depth_of (drop l.child-index ts))))
