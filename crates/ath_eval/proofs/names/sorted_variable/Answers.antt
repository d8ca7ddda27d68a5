use Rattle.ath_eval.specs.Evaluation as evaluation
use Rattle.ath_eval.proofs.NameLaws.{valid_meaning, sorted_by, sorted_not}
use Rattle.ath_eval.proofs.names.sorted_variable.Goals as goal

pub variable_of-requires : goal.variable_of-requires
variable_of-requires c = let a = c.args in valid_meaning a.w.now.sig c.requires.0 a.meant c.in-Ok.sort c.requires.1 c.in-Ok.is

pub returns-in_ok-outcome-in-Ok-clause-outcome : goal.returns-in_ok-outcome-in-Ok-clause-outcome
returns-in_ok-outcome-in-Ok-clause-outcome c = λ text m. let a = c.args in let o = c.in_ok-outcome-in-Ok in
    sorted_by a.w.now.sig text a.meant m c.variable_of.new.w.store o.outcome a.at c.in-Ok.sort (λ s place. evaluation.variable_of a.name a.index s) c.in-Ok.is o.ensures.outcome

pub returns-in_ok-outcome-in-Err-clause-outcome : goal.returns-in_ok-outcome-in-Err-clause-outcome
returns-in_ok-outcome-in-Err-clause-outcome c = λ text m. let a = c.args in let o = c.in_ok-outcome-in-Err in
    sorted_not a.w.now.sig text a.meant m a.w.now.store o.outcome a.at c.in-Err.error (λ s place. evaluation.variable_of a.name a.index s) c.in-Err.is o.ensures.memory (o.ensures.outcome a.w.now.store)
