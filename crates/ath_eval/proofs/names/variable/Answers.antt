use Rattle.std.proofs.Common.{Option, Some, sym, subst}
use Rattle.ath_syntax.specs.declared.node.SortText.{SortText}
use Rattle.ath_eval.specs.Evaluation as evaluation
use Rattle.ath_eval.specs.World.{context_of, IsAnswerIn}
use Rattle.ath_eval.proofs.NameLaws.{none_written, some_written}
use Rattle.ath_eval.proofs.Worlds.{steady_answers}
use Rattle.ath_eval.proofs.names.variable.Goals as goal

pub sorted_variable-requires : goal.sorted_variable-requires
sorted_variable-requires c = let q = c.requires.meant in let k = some_written c.args.w.now.sig q.0 c.args.sort c.in-Some.meant q.1 c.in-Some.is in (k.0, k.2)

pub returns-in_ok-outcome-in-None-clause-outcome : goal.returns-in_ok-outcome-in-None-clause-outcome
returns-in_ok-outcome-in-None-clause-outcome c = λ text m. let a = c.args in let w = a.w.now in let o = c.in_ok-outcome-in-None in
    subst (λ (t : Option SortText). IsAnswerIn w c.unsorted_variable.new.w o.outcome (evaluation.variable (context_of w) a.name a.index t a.at)) (sym (none_written w.sig text a.sort m c.in-None.is)) (o.ensures.outcome a.at)

pub returns-in_ok-outcome-in-Some-clause-outcome : goal.returns-in_ok-outcome-in-Some-clause-outcome
returns-in_ok-outcome-in-Some-clause-outcome c = λ text m. let a = c.args in let w = a.w.now in let o = c.in_ok-outcome-in-Some in let k = some_written w.sig text a.sort c.in-Some.meant m c.in-Some.is in
    subst (λ (t : Option SortText). IsAnswerIn w c.sorted_variable.new.w o.outcome (evaluation.variable (context_of w) a.name a.index t a.at)) (sym k.1) (steady_answers w c.sorted_variable.new.w o.outcome (evaluation.variable (context_of w) a.name a.index (Some k.0) a.at) o.ensures.rests (o.ensures.outcome k.0 k.2))
