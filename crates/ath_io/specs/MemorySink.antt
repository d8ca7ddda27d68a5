-- A sink in memory: what it is, and what a put does to it.
use Rattle.std.specs.Prelude.{ℕ, ◌-◌, ◌==◌, min, nat_lt, Bool, ◌||◌, List, [], ◌∷◌, ◌++◌, length, take, if◌then◌else◌, Option, Some, None, is_some, unwrap_or}
use Rattle.ath_io.specs.Faults.{one_more}
use Rattle.ath_io.specs.Sink.{Held}

-- what is held, how many bytes have room, the numbers of the puts that fail with how many bytes each takes, and how often one has failed
pub record SinkState : Type 0 where
  pub held : Held
  pub room : ℕ
  pub failing : List (ℕ × ℕ)
  pub faults : ℕ

abbrev pub new_sink : ℕ → List (ℕ × ℕ) → SinkState
new_sink room failing = record { held = record { bytes = []; puts = 0 }; room = room; failing = failing; faults = 0 }

-- what is listed for this number; of two pairs with one number the first counts
abbrev pub listed_count : List (ℕ × ℕ) → ℕ → Option ℕ
listed_count [] number = None
listed_count (pair ∷ pairs) number = if pair.0 == number then Some pair.1 else listed_count pairs number

-- what is listed for the next put, whose number is that of the puts with it
abbrev pub next_listed_count : SinkState → Option ℕ
next_listed_count sink = listed_count sink.failing (one_more sink.held.puts)

abbrev pub room_left : SinkState → ℕ
room_left sink = sink.room - length sink.held.bytes

-- a put fails where its number is listed or the piece is longer than the room left
abbrev pub put_fails : SinkState → List ℕ → Bool
put_fails sink bytes = is_some (next_listed_count sink) || nat_lt (room_left sink) (length bytes)

-- what a put takes of a piece: as many bytes as are listed, where any are, and no more than there is room for
abbrev pub taken_bytes : SinkState → List ℕ → List ℕ
taken_bytes sink bytes = take (min (unwrap_or (next_listed_count sink) (length bytes)) (room_left sink)) bytes

abbrev pub sink_after : SinkState → List ℕ → SinkState
sink_after sink bytes = record {
  held = record { bytes = sink.held.bytes ++ taken_bytes sink bytes; puts = one_more sink.held.puts };
  room = sink.room;
  failing = sink.failing;
  faults = if put_fails sink bytes then one_more sink.faults else sink.faults;
}
