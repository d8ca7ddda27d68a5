-- A binder and its body before they are put at other sorts: renamed where another free variable of the body comes to the
-- binder's name, index and sort.
use Rattle.std.specs.Prelude.{if◌then◌else◌}
use Rattle.ath_sorts.specs.declared.sorts.SVar.{SVar}
use Rattle.ath_sorts.specs.declared.sorts.Sort.{Sort}
use Rattle.ath_trees.specs.declared.node.Var.{Var}
use Rattle.ath_trees.specs.Tree.{Sent}
use Rattle.ath_trees.specs.Variables.{free_vars}
use Rattle.ath_trees.specs.Occurrences.{every_var, renewed}
use Rattle.ath_trees.specs.Renamed.{renamed}
use Rattle.ath_trees.specs.SortUnder.{is_met}

abbrev pub binder_at : (SVar → Sort) → Var → Sent → Var
binder_at f v p = if is_met f v (free_vars p) then renewed v (every_var p) else v

abbrev pub body_at : (SVar → Sort) → Var → Sent → Sent
body_at f v p = if is_met f v (free_vars p) then renamed v (renewed v (every_var p)) p else p
