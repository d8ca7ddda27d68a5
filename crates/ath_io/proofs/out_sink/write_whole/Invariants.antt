use Rattle.ath_io.proofs.Streams.{IsWritten}
use Rattle.ath_io.proofs.out_sink.write_whole.Given as goal

abbrev pub invariant-loop : goal.invariant-loop
invariant-loop g l = IsWritten (g.W.Write.contents l.fn.writer) (g.W.Write.contents l.writer) l.bytes l.rest
