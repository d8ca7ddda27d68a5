use Rattle.std.proofs.Common.{◌≡◌, drop, map}
use Rattle.std.specs.List.{list_any}
use Rattle.ath_trees.specs.Variables.{same_var}
use Rattle.ath_print.proofs.terms.is_bound.Given as goal

abbrev pub invariant-loop-binder : goal.invariant-loop-binder
invariant-loop-binder l = list_any (same_var l.v) (map (λ b. b.now) l.binders) ≡ list_any (same_var l.v) (map (λ b. b.now) (drop l.binder-index l.binders))
