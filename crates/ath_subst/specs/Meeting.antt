-- Variables that come to the name, the index and the sort of another at other sorts.
use Rattle.std.specs.Prelude.{Bool, ◌&&◌, not, List, [], ◌∷◌, ◌++◌, if◌then◌else◌}
use Rattle.ath_sorts.specs.declared.sorts.SVar.{SVar}
use Rattle.ath_sorts.specs.declared.sorts.Sort.{Sort}
use Rattle.ath_trees.specs.declared.node.Var.{Var}
use Rattle.ath_trees.specs.Occurrences.{is_among}
use Rattle.ath_trees.specs.Under.{var_under}
use Rattle.ath_trees.specs.Variables.{same_var}

-- whether w is another variable and comes to v
abbrev pub meets : (SVar → Sort) → Var → Var → Bool
meets f v w = not (same_var v w) && same_var (var_under f v) (var_under f w)

-- and none of these, which are bound where w occurs
abbrev pub meets_past : (SVar → Sort) → Var → List Var → Var → Bool
meets_past f v us w = not (is_among w us) && meets f v w

-- with the variable of one more binder, where that would come to v
abbrev pub past : (SVar → Sort) → Var → List Var → Var → List Var
past f v us u = if meets f v u then us ++ u ∷ [] else us
