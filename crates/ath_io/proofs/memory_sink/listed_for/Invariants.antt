use Rattle.std.proofs.Common.{◌≡◌, drop}
use Rattle.ath_io.specs.MemorySink.{listed_count}
use Rattle.ath_io.proofs.memory_sink.listed_for.Given as goal

abbrev pub invariant-loop-pair : goal.invariant-loop-pair
invariant-loop-pair l = listed_count l.failing l.number ≡ listed_count (drop l.pair-index l.failing) l.number
