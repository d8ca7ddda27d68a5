use Rattle.ath_eval.specs.Applying.{connective_applied, quantifier_applied}
use Rattle.ath_eval.specs.Arguments.{values_at}
use Rattle.ath_eval.specs.World.{context_of, environment_of}
use Rattle.ath_eval.proofs.Worlds.{works_none, rests_works, steady_answers}
use Rattle.ath_eval.proofs.calls.apply.Goals as goal

pub returns-in_ok-outcome-in-Symbol-clause-outcome : goal.returns-in_ok-outcome-in-Symbol-clause-outcome
returns-in_ok-outcome-in-Symbol-clause-outcome c = λ rec. rw c.in-Symbol.is c.in_ok-outcome-in-Symbol.ensures.outcome

pub returns-in_err-outcome-in-Conn-clause-works : goal.returns-in_err-outcome-in-Conn-clause-works
returns-in_err-outcome-in-Conn-clause-works c = rests_works c.args.w.now c.apply_connective.new.w c.in_err-outcome-in-Conn.ensures.rests

pub returns-in_ok-outcome-in-Conn-clause-works : goal.returns-in_ok-outcome-in-Conn-clause-works
returns-in_ok-outcome-in-Conn-clause-works c = rests_works c.args.w.now c.apply_connective.new.w c.in_ok-outcome-in-Conn.ensures.rests

pub returns-in_ok-outcome-in-Conn-clause-outcome : goal.returns-in_ok-outcome-in-Conn-clause-outcome
returns-in_ok-outcome-in-Conn-clause-outcome c = λ rec. let o = c.in_ok-outcome-in-Conn in
    let a = c.args in let w = a.w.now in
    rw c.in-Conn.is (steady_answers w c.apply_connective.new.w o.outcome (connective_applied w.sig c.in-Conn.conn (values_at w.store a.args.now) a.at) o.ensures.rests o.ensures.outcome)

pub returns-in_err-outcome-in-Quant-clause-works : goal.returns-in_err-outcome-in-Quant-clause-works
returns-in_err-outcome-in-Quant-clause-works c = rests_works c.args.w.now c.apply_quantifier.new.w c.in_err-outcome-in-Quant.ensures.rests

pub returns-in_ok-outcome-in-Quant-clause-works : goal.returns-in_ok-outcome-in-Quant-clause-works
returns-in_ok-outcome-in-Quant-clause-works c = rests_works c.args.w.now c.apply_quantifier.new.w c.in_ok-outcome-in-Quant.ensures.rests

pub returns-in_ok-outcome-in-Quant-clause-outcome : goal.returns-in_ok-outcome-in-Quant-clause-outcome
returns-in_ok-outcome-in-Quant-clause-outcome c = λ rec. let o = c.in_ok-outcome-in-Quant in
    let a = c.args in let w = a.w.now in
    rw c.in-Quant.is (steady_answers w c.apply_quantifier.new.w o.outcome (quantifier_applied w.sig c.in-Quant.q (values_at w.store a.args.now) a.at) o.ensures.rests o.ensures.outcome)

pub returns-in_default : goal.returns-in_default
returns-in_default c = let w = c.args.w.now in record {
  works = works_none w;
  outcome = λ rec. c.apply_other.ensures w.store (context_of w) rec (environment_of w) c.requires.head w.fresh;
}
