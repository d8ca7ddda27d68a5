use Rattle.std.proofs.Common.{◌≡◌, ◌+◌, drop, map, sum}
use Rattle.ath_sorts.specs.Sorts.{size_of, apply_to, image}
use Rattle.ath_sorts.proofs.substitution.SortSubst.+nodes_left.Given as goal

abbrev pub invariant-loop-arg : goal.invariant-loop-arg
invariant-loop-arg l = l.left + sum (map size_of (map (apply_to (image l.self)) l.arg-items)) + 1 ≡ l.budget + sum (map size_of (map (apply_to (image l.self)) (drop l.arg-index l.arg-items)))
