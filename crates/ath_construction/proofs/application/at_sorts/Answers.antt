use Rattle.std.proofs.Common.{arith}
use Rattle.ath_construction.proofs.ArgumentLaws.{places-next}
use Rattle.ath_construction.proofs.application.at_sorts.Goals as goal

pub loop-i-preserved : goal.loop-i-preserved
loop-i-preserved c = places-next c.args.params.now c.args.sorts.now c.loop-i.i (record { 0 = 0 }) c.index-sorts-i.result c.loop-i.subst c.push.new.self (omega arith) c.requires c.loop-i.invariant (rw (← c.index-sorts-i.is, ← c.in_ok-sort.ensures) c.in_ok-push.ensures)
