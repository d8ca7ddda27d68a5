use Rattle.std.proofs.Common.{refl, arith}
use Rattle.ath_env.specs.Stands.{value_at}
use Rattle.ath_eval.specs.Evaluation.{ascribed}
use Rattle.ath_eval.specs.Outcomes.{left_of}
use Rattle.ath_eval.specs.Stretches.{reading, reading_after}
use Rattle.ath_eval.proofs.Resuming.{head_gets, argument_gets, ascription_gets}
use Rattle.ath_eval.proofs.Worlds.{rests_works, works_passes, steady_answers}
use Rattle.ath_eval.proofs.Stretches.{steps_after, steps_done}
use Rattle.ath_eval.proofs.machine.resume_value.Goals as goal

pub take_arguments-requires-clause-known : goal.take_arguments-requires-clause-known
take_arguments-requires-clause-known c = let a = c.args in let s = a.w.now.store in let nodes = a.w.now.phrases in let k = c.in-Head in let q = c.requires.known in
    (q.0, q.1, head_gets (reading a.w.now) nodes s q.0 a.w.now.fresh a.stack.now.items q.1 a.value k.form k.phrase k.levels k.scope c.new-none.result c.new-none.ensures (rw k.is at q.2))

pub take_arguments-requires-in-Argument-clause-known : goal.take_arguments-requires-in-Argument-clause-known
take_arguments-requires-in-Argument-clause-known c = let a = c.args in let s = a.w.now.store in let nodes = a.w.now.phrases in let k = c.in-Argument in let q = c.requires.known in
    (q.0, q.1, argument_gets (reading a.w.now) nodes s q.0 a.w.now.fresh a.stack.now.items q.1 a.value k.form k.phrase k.head k.done c.push.new.self k.levels k.scope c.in_ok-push-in-Argument.ensures.ok (rw k.is at q.2))

pub returns-in_ok-state-in-Head-clause-steps : goal.returns-in_ok-state-in-Head-clause-steps
returns-in_ok-state-in-Head-clause-steps c = λ fuel. let a = c.args in let s = a.w.now.store in let nodes = a.w.now.phrases in let r = reading a.w.now in let k = c.in-Head in
    steps_after nodes s _ _ _ _ _ c.take_arguments.new.w.store fuel c.take_arguments.new.w.fresh c.in_ok-state-in-Head.state c.take_arguments.new.stack.items (omega arith)
    (λ out m. head_gets r nodes s fuel a.w.now.fresh a.stack.now.items out a.value k.form k.phrase k.levels k.scope c.new-none.result c.new-none.ensures (rw k.is at m)) (c.in_ok-state-in-Head.ensures.steps fuel)

pub returns-in_ok-state-in-Argument-clause-steps : goal.returns-in_ok-state-in-Argument-clause-steps
returns-in_ok-state-in-Argument-clause-steps c = λ fuel. let a = c.args in let s = a.w.now.store in let nodes = a.w.now.phrases in let r = reading a.w.now in let k = c.in-Argument in let t = c.take_arguments-in-Argument in
    steps_after nodes s _ _ _ _ _ t.new.w.store fuel t.new.w.fresh c.in_ok-state-in-Argument.state t.new.stack.items (omega arith)
    (λ out m. argument_gets r nodes s fuel a.w.now.fresh a.stack.now.items out a.value k.form k.phrase k.head k.done c.push.new.self k.levels k.scope c.in_ok-push-in-Argument.ensures.ok (rw k.is at m)) (c.in_ok-state-in-Argument.ensures.steps fuel)

pub ascribed-requires-clause-phrase : goal.ascribed-requires-clause-phrase
ascribed-requires-clause-phrase c = let a = c.args in let s = a.w.now.store in let k = c.in-Ascription in let q = c.requires.known in
    let g = ascription_gets (reading a.w.now) a.w.now.phrases s q.0 a.w.now.fresh a.stack.now.items q.1 a.value k.phrase (rw k.is at q.2) in
    (g.0, g.1, g.2, g.3)

pub ascribed-requires-clause-value : goal.ascribed-requires-clause-value
ascribed-requires-clause-value c = let a = c.args in let s = a.w.now.store in let k = c.in-Ascription in let q = c.requires.known in
    (ascription_gets (reading a.w.now) a.w.now.phrases s q.0 a.w.now.fresh a.stack.now.items q.1 a.value k.phrase (rw k.is at q.2)).4

pub returns-in_err-outcome-in-Ascription-clause-passes : goal.returns-in_err-outcome-in-Ascription-clause-passes
returns-in_err-outcome-in-Ascription-clause-passes c = works_passes c.args.w.now c.ascribed.new.w (rests_works c.args.w.now c.ascribed.new.w c.in_err-outcome-in-Ascription.ensures.rests)

pub returns-in_ok-outcome-in-Ascription-clause-steps : goal.returns-in_ok-outcome-in-Ascription-clause-steps
returns-in_ok-outcome-in-Ascription-clause-steps c = λ fuel. let a = c.args in let w = a.w.now in let s = w.store in let nodes = w.phrases in let r = reading w in let k = c.in-Ascription in let o = c.in_ok-outcome-in-Ascription in let fs = a.stack.now.items in let u = c.ascribed.new.w in
    steps_done r nodes s _ _ (reading_after w u) u.store fuel u.fresh o.outcome fs refl o.ensures.rests.world.base o.ensures.rests.world.grows (omega arith)
    (λ out m. let g = ascription_gets r nodes s fuel w.fresh fs out a.value k.phrase (rw k.is at m) in
    (ascribed r.context g.2 (value_at s a.value) g.0 (left_of fuel w.fresh), steady_answers w u o.outcome (ascribed r.context g.2 (value_at s a.value) g.0) o.ensures.rests (o.ensures.outcome g.0 g.1 g.2 g.3) fuel, g.5))
