-- Where the variables of a graph have their nodes.
use Rattle.std.specs.Prelude.{◌≡◌, ℕ, List, slice_get, Some}
use Rattle.std.specs.Map.{lookup}
use Rattle.ath_unifiers.specs.declared.nodes.Node.{Node}
use Rattle.ath_unifiers.specs.declared.nodes.Node.TheVariants.{Leaf}
use Rattle.ath_sorts.specs.declared.sorts.SVar.{SVar}
use Rattle.ath_sorts.specs.Sorts.{same_svar}

-- no node is the variable's
abbrev pub LeafFree : List Node → SVar → Type 0
LeafFree nodes v = (i : ℕ) → slice_get nodes i ≡ Some (Leaf v) → ⊥

-- the table has the node of each variable
abbrev pub HasPlaces : List Node → List (SVar × ℕ) → Type 0
HasPlaces nodes places = (i : ℕ) (v : SVar) → slice_get nodes i ≡ Some (Leaf v) → lookup (same_svar v) places ≡ Some i
