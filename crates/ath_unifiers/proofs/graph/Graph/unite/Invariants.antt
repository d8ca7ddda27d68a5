use Rattle.ath_unifiers.specs.Graphs.{Unites, joins_left}
use Rattle.ath_unifiers.proofs.graph.Graph.unite.Given as goal

abbrev pub invariant-loop-left : goal.invariant-loop-left
invariant-loop-left l = Unites l.initial.self l.self l.waiting l.a l.b

abbrev pub decreases-loop-left : goal.decreases-loop-left
decreases-loop-left l = joins_left l.self l.waiting
