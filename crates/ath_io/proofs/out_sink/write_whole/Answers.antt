use Rattle.ath_io.proofs.Streams.{more_written, kept_written}
use Rattle.ath_io.proofs.out_sink.write_whole.Goals.{in-Ok+else-count-eq0, in-Err+else-ne}
use Rattle.ath_io.proofs.out_sink.write_whole.Goals as goal

pub loop-preserved : goal.loop-preserved
loop-preserved g c = elim c.match-write.branch [
  | in-Ok+else-count-eq0 w ↦ rw w.rest-is (more_written _ _ _ _ _ _ c.loop.invariant w.in-Ok.ensures.bytes)
  | in-Err+else-ne w ↦ rw w.rest-is (kept_written _ _ _ _ _ c.loop.invariant w.in-Err.ensures.bytes)
]
