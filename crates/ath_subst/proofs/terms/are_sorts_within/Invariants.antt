use Rattle.std.proofs.Common.{◌≡◌, drop}
use Rattle.std.specs.List.{list_all}
use Rattle.ath_sorts.specs.Sorts.{is_small, image, apply_to}
use Rattle.ath_subst.proofs.terms.are_sorts_within.Given as goal

abbrev pub invariant-loop-sort : goal.invariant-loop-sort
invariant-loop-sort l = list_all (λ s. is_small (apply_to (image l.subst) s)) l.sorts ≡ list_all (λ s. is_small (apply_to (image l.subst) s)) (drop l.sort-index l.sorts)
