use Rattle.std.proofs.Common.{take}
use Rattle.ath_unifiers.specs.Graphs.{AllUnfold}
use Rattle.ath_unifiers.proofs.graph.Graph.+tree.Given as goal

abbrev pub decreases-tree : goal.decreases-tree
decreases-tree l = l.depth

abbrev pub invariant-loop-child : goal.invariant-loop-child
invariant-loop-child l = AllUnfold l.self (take l.child-index l.child-items) l.args
