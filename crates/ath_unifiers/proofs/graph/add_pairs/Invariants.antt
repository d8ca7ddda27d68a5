use Rattle.std.proofs.Common.{◌≡◌, ◌++◌, take}
use Rattle.std.specs.List.{zip}
use Rattle.ath_unifiers.proofs.graph.add_pairs.Given as goal

abbrev pub invariant-loop-i : goal.invariant-loop-i
invariant-loop-i l = l.waiting ≡ l.initial.waiting ++ zip (take l.i l.xs) (take l.i l.ys)
