use Rattle.std.proofs.Common.{◌≡◌, ◌++◌, drop}
use Rattle.ath_equality.specs.Nodes.{pairs}
use Rattle.ath_equality.proofs.equality.push_pairs.Given as goal

abbrev pub invariant-loop-i : goal.invariant-loop-i
invariant-loop-i l = l.left.items ++ pairs (drop l.i l.xs) (drop l.i l.ys) ≡ l.fn.left.items ++ pairs l.xs l.ys
