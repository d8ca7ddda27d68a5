-- What unification of a list of pairs of sorts comes to.
use Rattle.std.specs.Prelude.{ℕ, Bool, List, length, Result, Ok, Err, if◌then◌else◌}
use Rattle.std.specs.List.{list_all}
use Rattle.ath_sorts.specs.declared.sorts.SVar.{SVar}
use Rattle.ath_sorts.specs.declared.sorts.Sort.{Sort}
use Rattle.ath_unifiers.specs.Order.{precedes, vars_read}
use Rattle.ath_sorts.specs.Sorts.{image, is_small}
use Rattle.ath_unifiers.specs.Differences.{solve}

pub data Unified : Type 0 where
  solved : List (SVar × Sort) → Unified
  clashes : ℕ → Unified
  too_large : Unified

-- whether what the map gives its variables is within the limits
abbrev pub has_small_images : List (SVar × Sort) → Bool
has_small_images s = list_all (λ e. is_small (image s e.0)) s

abbrev pub within_limits : Result (List (SVar × Sort)) ℕ → Unified
within_limits (Ok s) = if has_small_images s then solved s else too_large
within_limits (Err at) = clashes at

-- the least most general unifier of the pairs, by the removal of the first difference again and again, each of which takes away a variable
unfoldable pub unified : List (Sort × Sort) → Unified
unified pairs = within_limits (solve (precedes (vars_read pairs)) (length (vars_read pairs)) pairs)
