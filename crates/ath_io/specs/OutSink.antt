-- A sink over a writer: the writer, how often a put has failed, and what a put does to the writer.
use Rattle.std.specs.Prelude.{ℕ, List, take, Option, Result, Ok, Err}
use Rattle.std.specs.Io.KnownBytes.{Appends}
use Rattle.ath_io.specs.declared.out_sink.OutSink.{OutSink}

abbrev pub writer_of : {W : Type 0} → OutSink W → W
writer_of sink = sink.writer

abbrev pub fault_count : {W : Type 0} → OutSink W → ℕ
fault_count sink = sink.faults

-- where the writer tells what it holds, it has taken the whole piece, or a front of it at a failure
abbrev pub Writes : {E : Type 0} → Option (List ℕ) → List ℕ → Result (Unit {0}) E → Option (List ℕ) → Type 0
Writes before bytes (Ok _) after = Appends before after bytes
Writes before bytes (Err _) after = (count : ℕ) × Appends before after (take count bytes)
