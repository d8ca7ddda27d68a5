-- How a map grows while sorts are matched.
use Rattle.std.specs.Prelude.{◌≡◌, Bool, true, false, IsTrue, IsSome, ◌↔◌, ◌⊎◌, List, Some}
use Rattle.ath_sorts.specs.declared.sorts.SVar.{SVar}
use Rattle.ath_sorts.specs.declared.sorts.Sort.{Sort}
use Rattle.ath_sorts.specs.Instances.{IsOff, Instantiates, is_free}
use Rattle.ath_sorts.specs.Substitutions.{entry_of}

-- f gives each variable of the map what the map gives it
abbrev pub Agrees : (SVar → Sort) → List (SVar × Sort) → Type 0
Agrees f s = (v : SVar) (t : Sort) → entry_of s v ≡ Some t → f v ≡ t

-- to agree with the new map is to agree with the old one and to make the general sorts the special ones
pub record Extends (rigid : List SVar) (old new : List (SVar × Sort)) (general special : List Sort) : Type 0 where
  pub sound : (f : SVar → Sort) → IsOff rigid f → Agrees f new → Agrees f old × Instantiates f general special
  pub complete : (f : SVar → Sort) → IsOff rigid f → Agrees f old → Instantiates f general special → Agrees f new
  pub covers : (v : SVar) → IsSome (entry_of new v) ↔ (IsSome (entry_of old v) ⊎ IsTrue (is_free general rigid v))

-- what agrees with the map doesn't make the general sorts the special ones
abbrev pub Refuses : List SVar → List (SVar × Sort) → List Sort → List Sort → Type 0
Refuses rigid old general special = (f : SVar → Sort) → IsOff rigid f → Agrees f old → Instantiates f general special → ⊥

abbrev pub MatchExtended : List SVar → List (SVar × Sort) → List (SVar × Sort) → List Sort → List Sort → Bool → Type 0
MatchExtended rigid old new general special true = Extends rigid old new general special
MatchExtended rigid old new general special false = Refuses rigid old general special
