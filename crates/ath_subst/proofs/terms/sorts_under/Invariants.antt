use Rattle.std.proofs.Common.{◌≡◌, take, map}
use Rattle.ath_sorts.specs.Sorts.{image, apply_to}
use Rattle.ath_subst.proofs.terms.sorts_under.Given as goal

abbrev pub invariant-loop-sort : goal.invariant-loop-sort
invariant-loop-sort l = l.images ≡ map (apply_to (image l.subst)) (take l.sort-index l.sorts)
