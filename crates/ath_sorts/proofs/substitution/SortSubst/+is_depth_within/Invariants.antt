use Rattle.std.proofs.Common.{◌≡◌, ◌-◌, max, drop, map}
use Rattle.ath_sorts.specs.Sorts.{depth_of, greatest, apply_to, image}
use Rattle.ath_sorts.proofs.substitution.SortSubst.+is_depth_within.Given as goal

abbrev pub invariant-loop-arg : goal.invariant-loop-arg
invariant-loop-arg l = max (l.most - 1) (greatest (map depth_of (map (apply_to (image l.self)) l.arg-items))) ≡ max (l.most - 1) (greatest (map depth_of (map (apply_to (image l.self)) (drop l.arg-index l.arg-items))))
