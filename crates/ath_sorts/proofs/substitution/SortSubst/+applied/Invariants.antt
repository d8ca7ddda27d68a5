use Rattle.std.proofs.Common.{◌≡◌, take, map}
use Rattle.ath_sorts.specs.Sorts.{apply_to, image}
use Rattle.ath_sorts.proofs.substitution.SortSubst.+applied.Given as goal

abbrev pub invariant-loop-arg : goal.invariant-loop-arg
invariant-loop-arg l = l.images ≡ map (apply_to (image l.self)) (take l.arg-index l.arg-items)
