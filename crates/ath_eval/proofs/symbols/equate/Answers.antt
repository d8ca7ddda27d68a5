use Rattle.std.proofs.Common.{List, sym, subst}
use Rattle.ath_env.specs.Values.{Value}
use Rattle.ath_eval.specs.Applying.{equated}
use Rattle.ath_eval.specs.World.{IsSteady}
use Rattle.ath_eval.proofs.Arguments.{no_value, two_values}
use Rattle.ath_eval.proofs.Counts.{equated_wrong}
use Rattle.ath_eval.proofs.symbols.equate.Goals as goal

pub returns-then-args-eq2-clause-outcome : goal.returns-then-args-eq2-clause-outcome
returns-then-args-eq2-clause-outcome c = let a = c.args in
    subst (λ (ys : List Value). IsSteady c.equate_values.new.w.store c.in_ok-outcome.outcome (equated a.w.now.sig ys a.at)) (sym (two_values a.w.now.store a.args.now no_value no_value c.if-args-eq2.true)) c.in_ok-outcome.ensures.outcome

pub returns-clause-outcome : goal.returns-clause-outcome
returns-clause-outcome c = let a = c.args in let s = a.w.now.store in
    equated_wrong s s a.args.now a.at c.in_ok-outcome-2.outcome a.w.now.sig c.if-args-eq2.false (c.in_ok-outcome-2.ensures s)
