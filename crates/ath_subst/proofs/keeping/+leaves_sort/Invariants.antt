use Rattle.std.proofs.Common.{◌≡◌, take, map}
use Rattle.ath_sorts.specs.Sorts.{apply_to, image}
use Rattle.ath_subst.proofs.keeping.+leaves_sort.Given as goal

abbrev pub invariant-loop-i : goal.invariant-loop-i
invariant-loop-i l = map (apply_to (image l.subst)) (take l.i l.parts) ≡ map (λ x. x) (take l.i l.parts)
