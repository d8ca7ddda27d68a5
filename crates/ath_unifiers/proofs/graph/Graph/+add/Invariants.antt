use Rattle.std.proofs.Common.{take}
use Rattle.ath_unifiers.specs.Graphs.{AddsSorts}
use Rattle.ath_unifiers.proofs.graph.Graph.+add.Given as goal

abbrev pub invariant-loop-arg : goal.invariant-loop-arg
invariant-loop-arg l = AddsSorts l.initial.self l.self (take l.arg-index l.arg-items) l.children
