-- Texts by name, the names that a shelf was asked for, and what a fetch makes of them.
use Rattle.std.specs.Prelude.{◌≡◌, ℕ, List, [], ◌∷◌, ◌++◌, take, if◌then◌else◌, Option, Some, None, Result, Ok, Err}
use Rattle.std.specs.Option.{option_map}
use Rattle.std.specs.Str.{bytes_eq}
use Rattle.ath_io.specs.declared.shelf.FetchError.{FetchError}
use Rattle.ath_io.specs.declared.shelf.FetchError.TheVariants.{Failed, Memory}

-- names with their bytes, and the names asked so far, in order
pub record Texts : Type 0 where
  pub texts : List (List ℕ × List ℕ)
  pub asked : List (List ℕ)

-- the bytes of this name; of two texts with one name the first counts
abbrev pub text_named : List (List ℕ × List ℕ) → List ℕ → Option (List ℕ)
text_named [] name = None
text_named (text ∷ texts) name = if bytes_eq text.0 name then Some text.1 else text_named texts name

-- at most so many bytes of the text of this name, from its beginning
abbrev pub front_of : List (List ℕ × List ℕ) → List ℕ → ℕ → Option (List ℕ)
front_of texts name most = option_map (take most) (text_named texts name)

-- the same texts, where they are told, and these names asked besides
abbrev pub with_asked : Option Texts → List (List ℕ) → Option Texts
with_asked None names = None
with_asked (Some told) names = Some (record { texts = told.texts; asked = told.asked ++ names })

-- a fetch that isn't refused for want of memory adds its name to those asked
abbrev pub after_fetch : {T : Type 0} → Option Texts → List ℕ → Result T FetchError → Option Texts
after_fetch told name (Ok _) = with_asked told (name ∷ [])
after_fetch told name (Err Failed) = with_asked told (name ∷ [])
after_fetch told name (Err Memory) = told

-- where the texts are told, these are at most so many bytes of the text of this name
abbrev pub IsFetched : Option Texts → List ℕ → ℕ → List ℕ → Type 0
IsFetched None name most bytes = Unit {0}
IsFetched (Some told) name most bytes = front_of told.texts name most ≡ Some bytes
