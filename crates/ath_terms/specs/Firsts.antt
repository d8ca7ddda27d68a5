-- A table from keys to the places of the first items of a list that have them.
use Rattle.std.specs.Prelude.{◌≡◌, ℕ, Bool, List, slice_get, find, Option, Some, None, if◌then◌else◌}
use Rattle.std.specs.Map.{lookup}

module _ {A K : Type 0} (same : K → K → Bool) (key : A → K) where
  -- the item, if it has the key
  abbrev pub item_of : Option A → K → Option A
  item_of None k = None
  item_of (Some a) k = if same k (key a) then Some a else None

  abbrev pub item_there : List A → Option ℕ → K → Option A
  item_there items None k = None
  item_there items (Some i) k = item_of (slice_get items i) k

  -- the table has the place of each key's first item; a place past the end, or of an item with another key, is none
  abbrev pub HasFirsts : List A → List (K × ℕ) → Type 0
  HasFirsts items places = (k : K) → item_there items (lookup (same k) places) k ≡ find (λ a. same k (key a)) items
