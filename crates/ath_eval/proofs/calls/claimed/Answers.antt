use Rattle.std.proofs.Common.{List, sym, subst}
use Rattle.ath_env.specs.Values.{Value}
use Rattle.ath_eval.specs.Methods as methods
use Rattle.ath_eval.specs.World.{IsSteady, environment_of}
use Rattle.ath_eval.proofs.Arguments.{no_value, one_value}
use Rattle.ath_eval.proofs.Counts.{claimed_wrong}
use Rattle.ath_eval.proofs.calls.claimed.Goals as goal

pub returns-then-args-eq1-clause-outcome : goal.returns-then-args-eq1-clause-outcome
returns-then-args-eq1-clause-outcome c = let a = c.args in
    subst (λ (ys : List Value). IsSteady c.claim.new.w.store c.in_ok-outcome.outcome (methods.claimed (environment_of a.w.now).base ys a.at)) (sym (one_value a.w.now.store a.args.now no_value c.if-args-eq1.true)) c.in_ok-outcome.ensures.outcome

pub returns-clause-outcome : goal.returns-clause-outcome
returns-clause-outcome c = let a = c.args in let s = a.w.now.store in
    claimed_wrong s s a.args.now a.at c.in_ok-outcome-2.outcome (environment_of a.w.now).base c.if-args-eq1.false (c.in_ok-outcome-2.ensures s)
