use Rattle.std.proofs.Common.{arith}
use Rattle.ath_construction.proofs.ArgumentLaws.{made-next}
use Rattle.ath_construction.proofs.application.made_sorts.Goals as goal

pub loop-i-preserved : goal.loop-i-preserved
loop-i-preserved c = made-next c.args.first c.args.params.now c.loop-i.i (record { 0 = 0 }) c.loop-i.sorts.items c.push.new.self.items (omega arith) c.loop-i.invariant c.in_ok-push.ensures.items
