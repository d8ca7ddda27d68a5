use Rattle.std.proofs.Common.{take}
use Rattle.ath_unifiers.specs.Graphs.{Stands}
use Rattle.ath_unifiers.proofs.unification.graph_of.Given as goal

abbrev pub invariant-loop-at : goal.invariant-loop-at
invariant-loop-at l = Stands l.graph (take l.at l.pairs)
