-- What a walk that extends a map answers.
use Rattle.std.specs.Prelude.{Bool, true, false, List, Some, None}
use Rattle.ath_sorts.specs.declared.sorts.SVar.{SVar}
use Rattle.ath_sorts.specs.declared.sorts.Sort.{Sort}
use Rattle.ath_trees.specs.Instance.{Found}

-- the map where the walk went through, or none
abbrev pub answer : Bool → List (SVar × Sort) → Found
answer true s = Some s
answer false s = None
