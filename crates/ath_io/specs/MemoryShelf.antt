-- A shelf in memory: what it is, and what a fetch does to it.
use Rattle.std.specs.Prelude.{◌≡◌, ℕ, ◌+◌, ◌==◌, List, [], ◌∷◌, ◌++◌, length, map, if◌then◌else◌, Option, Some, None, Result, Ok, Err, Vec, String, string_bytes}
use Rattle.std.specs.List.{list_any}
use Rattle.std.specs.declared.alloc.Global.{Global}
use Rattle.ath_io.specs.declared.shelf.FetchError.{FetchError}
use Rattle.ath_io.specs.declared.shelf.FetchError.TheVariants.{Failed, Memory}
use Rattle.ath_io.specs.Faults.{one_more}
use Rattle.ath_io.specs.Shelf.{Texts, front_of}

-- the texts and the names asked, the numbers of the fetches that fail, and how often one has failed
pub record ShelfState : Type 0 where
  pub told : Texts
  pub failing : List ℕ
  pub faults : ℕ

-- each name as its bytes, with those of its text
abbrev pub entries : List (String Global × Vec ℕ Global) → List (List ℕ × List ℕ)
entries texts = map (λ text. (string_bytes text.0, text.1.items)) texts

-- no name was asked
abbrev pub new_shelf : List (List ℕ × List ℕ) → List ℕ → ShelfState
new_shelf texts failing = record { told = record { texts = texts; asked = [] }; failing = failing; faults = 0 }

-- the number of the next fetch, counted from 1
abbrev pub next_number : ShelfState → ℕ
next_number shelf = length shelf.told.asked + 1

-- what the next fetch gives, where memory is found; none where its number is listed or the name isn't held
abbrev pub next_answer : ShelfState → List ℕ → ℕ → Option (List ℕ)
next_answer shelf name most = if list_any (λ number. number == next_number shelf) shelf.failing then None else front_of shelf.told.texts name most

-- one name more was asked, and this many fetches have failed
abbrev pub shelf_after : ShelfState → List ℕ → ℕ → ShelfState
shelf_after shelf name faults = record {
  told = record { texts = shelf.told.texts; asked = shelf.told.asked ++ name ∷ [] };
  failing = shelf.failing;
  faults = faults;
}

-- a fetch gives its answer or fails, each exactly where the answer says so; want of memory changes nothing
abbrev pub FetchesFromMemory : ShelfState → List ℕ → ℕ → Result (Vec ℕ Global) FetchError → ShelfState → Type 0
FetchesFromMemory old name most (Ok bytes) new = (next_answer old name most ≡ Some bytes.items) × (new ≡ shelf_after old name old.faults)
FetchesFromMemory old name most (Err Failed) new = (next_answer old name most ≡ None) × (new ≡ shelf_after old name (one_more old.faults))
FetchesFromMemory old name most (Err Memory) new = new ≡ old
