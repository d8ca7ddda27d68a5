-- Instances of sorts.
use Rattle.std.specs.Prelude.{◌≡◌, Bool, ◌&&◌, not, IsTrue, IsSome, ◌↔◌, List, map, Option, None, Some}
use Rattle.std.specs.List.{list_any}
use Rattle.ath_sorts.specs.declared.sorts.SVar.{SVar}
use Rattle.ath_sorts.specs.declared.sorts.Sort.{Sort, Var}
use Rattle.ath_sorts.specs.Sorts.{same_svar, image, apply_to, occurs}
use Rattle.ath_sorts.specs.Substitutions.{entry_of}

abbrev pub is_rigid : List SVar → SVar → Bool
is_rigid rigid v = list_any (λ w. same_svar w v) rigid

-- a substitution is off a list of variables where it moves none of them
abbrev pub IsOff : List SVar → (SVar → Sort) → Type 0
IsOff rigid f = (v : SVar) → IsTrue (is_rigid rigid v) → f v ≡ Var v

-- it makes the general sorts the special ones
abbrev pub Instantiates : (SVar → Sort) → List Sort → List Sort → Type 0
Instantiates f general special = map (apply_to f) general ≡ special

-- the variables that an instance may move: those that occur and aren't rigid
abbrev pub is_free : List Sort → List SVar → SVar → Bool
is_free general rigid v = list_any (occurs v) general && not (is_rigid rigid v)

pub record IsInstance (s : List (SVar × Sort)) (general special : List Sort) (rigid : List SVar) : Type 0 where
  pub instantiates : Instantiates (image s) general special
  pub off : IsOff rigid (image s)
  -- it has an entry for exactly the variables that it may move
  pub covers : (v : SVar) → IsSome (entry_of s v) ↔ IsTrue (is_free general rigid v)

-- the answer is the instance, or None where there is none
abbrev pub MatchInstance : List Sort → List Sort → List SVar → Option (List (SVar × Sort)) → Type 0
MatchInstance general special rigid (Some s) = IsInstance s general special rigid
MatchInstance general special rigid None = (f : SVar → Sort) → IsOff rigid f → Instantiates f general special → ⊥
