use Rattle.std.proofs.Common.{◌≡◌, ◌+◌, drop, map, sum}
use Rattle.ath_sorts.specs.Sorts.{size_of}
use Rattle.ath_sorts.proofs.limits.+nodes_left.Given as goal

abbrev pub invariant-loop-arg : goal.invariant-loop-arg
invariant-loop-arg l = l.left + sum (map size_of l.arg-items) + 1 ≡ l.budget + sum (map size_of (drop l.arg-index l.arg-items))
