-- Unifiers of a list of pairs of sorts, and the least most general one.
use Rattle.std.specs.Prelude.{◌≡◌, ℕ, ◌+◌, ◌<◌, false, IsTrue, ◌⊎◌, List, length, take, Some, Result, Ok, Err}
use Rattle.std.specs.List.{AllByRecursion}
use Rattle.ath_sorts.specs.declared.sorts.SVar.{SVar}
use Rattle.ath_sorts.specs.declared.sorts.Sort.{Sort, Var}
use Rattle.ath_unifiers.specs.declared.unification.UnifyError.{UnifyError}
use Rattle.ath_unifiers.specs.declared.unification.UnifyError.TheVariants.{Clash, SortTooLarge, Memory}
use Rattle.ath_unifiers.specs.Order.{precedes, vars_read}
use Rattle.ath_sorts.specs.Sorts.{image, is_small, apply_to}
use Rattle.ath_sorts.specs.Substitutions.{entry_of}

-- a unifier makes the sides of each pair equal
abbrev pub Unifies : (SVar → Sort) → List (Sort × Sort) → Type 0
Unifies f pairs = AllByRecursion (λ p. apply_to f p.0 ≡ apply_to f p.1) pairs

abbrev pub HasUnifier : List (Sort × Sort) → Type 0
HasUnifier pairs = (f : SVar → Sort) × Unifies f pairs

-- applied twice it is as applied once
abbrev pub IsIdempotent : List (SVar × Sort) → Type 0
IsIdempotent s = (v : SVar) → apply_to (image s) (image s v) ≡ image s v

-- every unifier is this one and then some other substitution
abbrev pub IsMostGeneral : List (SVar × Sort) → List (Sort × Sort) → Type 0
IsMostGeneral s pairs = (f : SVar → Sort) → Unifies f pairs → (g : SVar → Sort) × ((v : SVar) → f v ≡ apply_to g (image s v))

-- a variable that is mapped to a variable is mapped to the first of all that are mapped to the same one
abbrev pub MapsToLeast : List (SVar × Sort) → List (Sort × Sort) → Type 0
MapsToLeast s pairs = (v w : SVar) → image s v ≡ Var w → (v ≡ w) ⊎ IsTrue (precedes (vars_read pairs) w v)

pub record IsLeastUnifier (s : List (SVar × Sort)) (pairs : List (Sort × Sort)) : Type 0 where
  pub unifies : Unifies (image s) pairs
  pub idempotent : IsIdempotent s
  pub most_general : IsMostGeneral s pairs
  pub least : MapsToLeast s pairs

-- no variable is mapped to itself
abbrev pub MovesAll : List (SVar × Sort) → Type 0
MovesAll s = (v : SVar) → entry_of s v ≡ Some (Var v) → ⊥

-- the place of a pair with which those before it lose their unifier
abbrev pub IsClash : List (Sort × Sort) → ℕ → Type 0
IsClash pairs at = (at < length pairs) × HasUnifier (take at pairs) × (HasUnifier (take (at + 1) pairs) → ⊥)

-- the answer is the least unifier, where it exists and its images are within the limits; or memory is wanted
abbrev pub MatchUnified : List (Sort × Sort) → Result (List (SVar × Sort)) UnifyError → Type 0
MatchUnified pairs (Ok s) = IsLeastUnifier s pairs × MovesAll s × ((v : SVar) → IsTrue (is_small (image s v)))
MatchUnified pairs (Err (Clash at)) = IsClash pairs at
MatchUnified pairs (Err SortTooLarge) = (s : List (SVar × Sort)) × IsLeastUnifier s pairs × ((v : SVar) × (is_small (image s v) ≡ false))
MatchUnified pairs (Err Memory) = Unit {0}
