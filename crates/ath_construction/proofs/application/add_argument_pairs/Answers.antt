use Rattle.std.proofs.Common.{arith}
use Rattle.ath_construction.proofs.ArgumentLaws.{arguments-next}
use Rattle.ath_construction.proofs.application.add_argument_pairs.Goals as goal

pub loop-i-preserved : goal.loop-i-preserved
loop-i-preserved c = arguments-next c.args.pairs.now.items c.args.store.now c.args.declared.now c.args.args.now c.loop-i.i c.index-declared-i.result
    (record { 0 = 0 }) c.loop-i.pairs.items c.add_pair.new.pairs.items (omega arith) c.requires.same c.loop-i.invariant (rw (← c.index-declared-i.is, ← c.sort_of.ensures) c.in_ok-add_pair.ensures)
