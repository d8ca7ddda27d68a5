use Rattle.std.proofs.Common.{◌≡◌, not, take}
use Rattle.std.specs.Prelude.{filter}
use Rattle.ath_trees.specs.Variables.{same_var}
use Rattle.ath_subst.proofs.substitution.others.Given as goal

abbrev pub invariant-loop-i : goal.invariant-loop-i
invariant-loop-i l = l.found.items ≡ filter (λ w. not (same_var l.x w)) (take l.i l.all)
