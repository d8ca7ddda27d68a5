use Rattle.std.proofs.Common.{arith}
use Rattle.ath_terms.proofs.VariableLaws.{others-next}
use Rattle.ath_terms.proofs.variables.add_others.Goals as goal

pub loop-i-preserved : goal.loop-i-preserved
loop-i-preserved c = others-next c.args.found.now c.args.inner.now c.args.v.now c.loop-i.i c.index-inner-i.result c.loop-i.found c.add_other.new.found (omega arith) c.loop-i.invariant (rw (← c.index-inner-i.is) c.in_ok-add_other.ensures)
