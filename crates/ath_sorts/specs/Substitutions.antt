-- Sort substitutions, as finite maps.
use Rattle.std.specs.Prelude.{List, [], ◌∷◌, Option, Some, None, if◌then◌else◌}
use Rattle.ath_sorts.specs.declared.sorts.SVar.{SVar}
use Rattle.ath_sorts.specs.declared.sorts.Sort.{Sort}
use Rattle.ath_sorts.specs.Sorts.{same_svar}

-- what the variable is mapped to, where it is in the map
abbrev pub entry_of : List (SVar × Sort) → SVar → Option Sort
entry_of [] v = None
entry_of (e ∷ s) v = if same_svar e.0 v then Some e.1 else entry_of s v
