-- What a sink holds, and what a put makes of it.
use Rattle.std.specs.Prelude.{◌≡◌, ℕ, List, [], ◌∷◌, ◌++◌, take, Option, Some, None, Result, Ok, Err}
use Rattle.ath_io.specs.Faults.{one_more}

-- the bytes, and how many puts were made
pub record Held : Type 0 where
  pub bytes : List ℕ
  pub puts : ℕ

-- after one put more that took these bytes, where what is held is told
abbrev pub with_put : Option Held → List ℕ → Option Held
with_put None bytes = None
with_put (Some held) bytes = Some (record { bytes = held.bytes ++ bytes; puts = one_more held.puts })

-- a put takes the whole piece, and one that fails takes a front of it
abbrev pub Puts : {E : Type 0} → Option Held → List ℕ → Result (Unit {0}) E → Option Held → Type 0
Puts before bytes (Ok _) after = after ≡ with_put before bytes
Puts before bytes (Err _) after = (count : ℕ) × (after ≡ with_put before (take count bytes))

-- after puts that took these pieces, one after the other
abbrev pub with_puts : Option Held → List (List ℕ) → Option Held
with_puts told [] = told
with_puts told (bytes ∷ pieces) = with_puts (with_put told bytes) pieces
