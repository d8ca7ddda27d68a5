-- What the laws of the reader say.
use Rattle.std.specs.Prelude.{◌≡◌, ℕ, List}
use Rattle.ath_reader.specs.Reading.{Reading}
use Rattle.ath_reader.specs.Next.{Upcoming, IsNext}

-- one thing alone is next
abbrev pub OneNext : Type 0
OneNext = (r : Reading) (names : List (List ℕ)) (from : ℕ) (a b : Upcoming) → IsNext r names from a → IsNext r names from b → a ≡ b

-- from each byte on, something is next
abbrev pub SomeNext : Type 0
SomeNext = (r : Reading) (names : List (List ℕ)) (from : ℕ) → (n : Upcoming) × IsNext r names from n
