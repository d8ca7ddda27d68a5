use Rattle.std.proofs.Common.{[], arith}
use Rattle.ath_terms.proofs.VariableLaws.{term_vars-next}
use Rattle.ath_terms.proofs.ListLaws.{list_vars-all}
use Rattle.ath_construction.proofs.application.list_vars.Goals as goal

pub loop-i-preserved : goal.loop-i-preserved
loop-i-preserved c = term_vars-next c.args.store.now.terms [] c.args.args.now c.loop-i.i (record { 0 = 0 }) c.loop-i.found c.add_term_vars.new.found (omega arith) c.loop-i.invariant c.in_ok-add_term_vars.ensures

pub returns : goal.returns
returns c = list_vars-all c.args.store.now.terms c.args.args.now c.loop-i.i c.loop-i.found (omega arith) c.loop-i.invariant
