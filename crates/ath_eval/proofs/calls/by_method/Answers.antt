use Rattle.ath_eval.specs.Arguments.{values_at}
use Rattle.ath_eval.specs.Methods as methods
use Rattle.ath_eval.specs.World.{environment_of}
use Rattle.ath_eval.proofs.Ponens.{same_answer, first_method, other_method}
use Rattle.ath_eval.proofs.calls.by_method.Goals as goal

pub returns-then-n-eq0-clause-outcome : goal.returns-then-n-eq0-clause-outcome
returns-then-n-eq0-clause-outcome c = let a = c.args in let w = a.w.now in let env = environment_of w in let vs = values_at w.store a.args.now in
    same_answer c.claimed.new.w.store c.in_ok-outcome.outcome (methods.by_method env a.n vs a.at) (methods.claimed env.base vs a.at) (first_method env a.n vs a.at c.if-n-eq0.true) c.in_ok-outcome.ensures.outcome

pub returns-clause-outcome : goal.returns-clause-outcome
returns-clause-outcome c = let a = c.args in let w = a.w.now in let env = environment_of w in let vs = values_at w.store a.args.now in
    same_answer c.ponens.new.w.store c.in_ok-outcome-2.outcome (methods.by_method env a.n vs a.at) (methods.ponens env.base vs a.at) (other_method env a.n vs a.at c.if-n-eq0.false) c.in_ok-outcome-2.ensures.outcome
