use Rattle.std.proofs.Common.{◌≡◌, length}
use Rattle.ath_unifiers.specs.Graphs.{MarksTrees, unmarked}
use Rattle.ath_unifiers.proofs.graph.Graph.is_acyclic.Given as goal

abbrev pub invariant-passes : goal.invariant-passes
invariant-passes l = MarksTrees l.self l.grown.items × (length l.grown.items ≡ length l.self.nodes)

abbrev pub decreases-passes : goal.decreases-passes
decreases-passes l = unmarked l.grown.items
