use Rattle.ath_unifiers.specs.Graphs.{IsSolution}
use Rattle.ath_unifiers.proofs.graph.Graph.solution.Given as goal

abbrev pub invariant-loop-at : goal.invariant-loop-at
invariant-loop-at l = IsSolution l.self l.at l.solution
