use Rattle.std.proofs.Common.{arith}
use Rattle.ath_subst.proofs.OccurrenceLaws.{every-next}
use Rattle.ath_subst.proofs.occurrences.+add_every_var.Goals as goal

pub loop-i-preserved : goal.loop-i-preserved
loop-i-preserved t c = every-next c.args.store.now.sents c.args.found.now.items c.as_slice-parts.result.now c.loop-i.i (record { 0 = 0 }) c.loop-i.found.items c.add_every_var.new.found.items (omega arith) c.loop-i.invariant c.in_ok-add_every_var-in-Conn.ensures
