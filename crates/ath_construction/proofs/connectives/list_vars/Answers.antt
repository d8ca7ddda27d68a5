use Rattle.std.proofs.Common.{[], arith}
use Rattle.ath_terms.proofs.VariableLaws.{sent_vars-next}
use Rattle.ath_subst.proofs.SentLaws.{sent_list-all}
use Rattle.ath_construction.proofs.connectives.list_vars.Goals as goal

pub loop-i-preserved : goal.loop-i-preserved
loop-i-preserved c = sent_vars-next c.args.store.now.sents [] c.args.parts.now c.loop-i.i (record { 0 = 0 }) c.loop-i.found c.add_sent_vars.new.found (omega arith) c.loop-i.invariant c.in_ok-add_sent_vars.ensures

pub returns : goal.returns
returns c = sent_list-all c.args.store.now.sents c.args.parts.now c.loop-i.i c.loop-i.found (omega arith) c.loop-i.invariant
