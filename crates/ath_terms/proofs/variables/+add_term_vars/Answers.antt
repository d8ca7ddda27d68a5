use Rattle.std.proofs.Common.{arith}
use Rattle.ath_terms.proofs.VariableLaws.{term_vars-next}
use Rattle.ath_terms.proofs.variables.+add_term_vars.Goals as goal

pub loop-i-preserved : goal.loop-i-preserved
loop-i-preserved t c = term_vars-next c.args.store.now.terms c.args.found.now c.as_slice-parts.result.now c.loop-i.i (record { 0 = 0 }) c.loop-i.found c.add_term_vars.new.found (omega arith) c.loop-i.invariant c.in_ok-add_term_vars-in-App.ensures
