use Rattle.std.proofs.Common.{◌≡◌, drop}
use Rattle.std.specs.List.{list_any}
use Rattle.ath_trees.specs.Variables.{same_var}
use Rattle.ath_terms.proofs.found.is_found.Given as goal

abbrev pub invariant-loop-w : goal.invariant-loop-w
invariant-loop-w l = list_any (same_var l.v) l.found ≡ list_any (same_var l.v) (drop l.w-index l.found)
