use Rattle.std.proofs.Common.{refl, sym, arith}
use Rattle.ath_env.specs.Stands.{value_at}
use Rattle.ath_eval.specs.Applying.{applied}
use Rattle.ath_eval.specs.Arguments.{values_at}
use Rattle.ath_eval.specs.Evaluation.{evaluated}
use Rattle.ath_eval.specs.Machine.{acts}
use Rattle.ath_eval.specs.Methods.{called}
use Rattle.ath_eval.specs.Outcomes.{left_of}
use Rattle.ath_eval.specs.World.{with_base, environment_of}
use Rattle.ath_eval.specs.Stretches.{reading, reading_after}
use Rattle.ath_eval.specs.declared.frame.Use.TheVariants as uses
use Rattle.ath_eval.proofs.Ponens.{same_answer, same_moving}
use Rattle.ath_eval.proofs.Shapes.{used_place}
use Rattle.ath_eval.proofs.Stretches.{steps_done}
use Rattle.ath_eval.proofs.Worlds.{rests_works, steady_answers}
use Rattle.ath_eval.proofs.parts.act.Goals as goal

pub returns-in_ok-outcome-in-Apply-clause-steps : goal.returns-in_ok-outcome-in-Apply-clause-steps
returns-in_ok-outcome-in-Apply-clause-steps c = λ fs levels fuel. let a = c.args in let w = a.w.now in let s = w.store in let n = c.node.result.now in let nodes = w.phrases in let r = reading w in let rec = evaluated r.context levels in let o = c.in_ok-outcome-in-Apply in let u = c.apply.new.w in
    rw c.in-Apply.is (steps_done r nodes s _ _ (reading_after w u) u.store fuel u.fresh o.outcome fs refl o.ensures.works.world.base o.ensures.works.world.grows (omega arith)
    (λ out m. (
      acts r.context levels uses.Apply m.0 m.3 (with_base m.5) m.4 (left_of fuel w.fresh),
      same_moving u.store w.fresh u.fresh o.outcome (acts r.context levels uses.Apply m.0 m.3 (with_base m.5) m.4) (applied r.context rec (environment_of w) (value_at s a.head) (values_at s a.args.now) n.pos)
          (λ i. applied r.context rec (with_base (m.9.entries i)) (sym m.7.1 i) (sym m.8.1 i) (used_place nodes uses.Apply a.phrase n m.0 m.1 m.2 m.6 c.node.ensures.node i)) (o.ensures.outcome rec) fuel,
      m.10,
    )))

pub returns-in_err-outcome-in-Call-clause-works : goal.returns-in_err-outcome-in-Call-clause-works
returns-in_err-outcome-in-Call-clause-works c = rests_works c.args.w.now c.call.new.w c.in_err-outcome-in-Call.ensures.rests

pub returns-in_ok-outcome-in-Call-clause-works : goal.returns-in_ok-outcome-in-Call-clause-works
returns-in_ok-outcome-in-Call-clause-works c = rests_works c.args.w.now c.call.new.w c.in_ok-outcome-in-Call.ensures.rests

pub returns-in_ok-outcome-in-Call-clause-steps : goal.returns-in_ok-outcome-in-Call-clause-steps
returns-in_ok-outcome-in-Call-clause-steps c = λ fs levels fuel. let a = c.args in let w = a.w.now in let s = w.store in let n = c.node.result.now in let nodes = w.phrases in let r = reading w in let rec = evaluated r.context levels in let o = c.in_ok-outcome-in-Call in let u = c.call.new.w in
    rw c.in-Call.is (steps_done r nodes s _ _ (reading_after w u) u.store fuel u.fresh o.outcome fs refl o.ensures.rests.world.base o.ensures.rests.world.grows (omega arith)
    (λ out m. (
      acts r.context levels uses.Call m.0 m.3 (with_base m.5) m.4 (left_of fuel w.fresh),
      steady_answers w u o.outcome (acts r.context levels uses.Call m.0 m.3 (with_base m.5) m.4) o.ensures.rests (same_answer u.store o.outcome (acts r.context levels uses.Call m.0 m.3 (with_base m.5) m.4) (called r.context rec (environment_of w) (value_at s a.head) (values_at s a.args.now) n.pos)
          (λ i. called r.context rec (with_base (m.9.entries i)) (sym m.7.1 i) (sym m.8.1 i) (used_place nodes uses.Call a.phrase n m.0 m.1 m.2 m.6 c.node.ensures.node i)) (o.ensures.outcome r.context rec)) fuel,
      m.10,
    )))
