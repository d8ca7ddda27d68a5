use Rattle.ath_eval.specs.World.{context_of}
use Rattle.ath_eval.proofs.Ascriptions.{ascribed_here, ascribed_elsewhere}
use Rattle.ath_eval.proofs.machine.ascribed.Goals as goal

pub ascribe-requires-clause-meant : goal.ascribe-requires-clause-meant
ascribe-requires-clause-meant c = (c.in-Ascribe.text, c.sort_of_text-meant.ensures)

pub returns-in_ok-outcome-in-Ascribe-clause-outcome : goal.returns-in_ok-outcome-in-Ascribe-clause-outcome
returns-in_ok-outcome-in-Ascribe-clause-outcome c = λ p x text isp. let a = c.args in let n = c.node-node.result.now in let o = c.in_ok-outcome-in-Ascribe in let k = c.in-Ascribe in
    ascribed_here a.w.now.phrases (context_of a.w.now) a.phrase n p x text isp c.node-node.ensures.node k.field-0 k.text k.is c.ascribe.new.w.store o.outcome _ (o.ensures.outcome k.text c.sort_of_text-meant.ensures)

pub returns-in_default : goal.returns-in_default
returns-in_default c = let a = c.args in let n = c.node-node.result.now in let q = c.requires.phrase in
    ascribed_elsewhere a.w.now.phrases a.phrase n q.0 q.1 q.2 q.3 c.node-node.ensures.node c.in_default.not-Ascribe
