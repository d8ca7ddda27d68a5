use Rattle.std.proofs.Common.{arith}
use Rattle.ath_eval.specs.Stretches.{reading}
use Rattle.ath_eval.proofs.Resuming.{error_passes, exhaustion_passes, frame_within, theorem_inside, theorem_is_value}
use Rattle.ath_eval.proofs.Worlds.{works_none, works_passes}
use Rattle.ath_eval.proofs.Stretches.{steps_same, steps_after}
use Rattle.ath_eval.proofs.machine.resume.Goals as goal

pub value_of-value-requires : goal.value_of-value-requires
value_of-value-requires c = let a = c.args in let s = a.w.now.store in let nodes = a.w.now.phrases in let k = c.in-Theorem in let q = c.requires.known in
    theorem_inside (reading a.w.now) nodes s q.0 a.w.now.fresh a.stack.now.items q.1 k.p a.frame (rw k.is at q.2)

pub conclude_part-requires : goal.conclude_part-requires
conclude_part-requires c = let a = c.args in let q = c.requires.known in
    frame_within (reading a.w.now) a.w.now.phrases a.w.now.store q.0 a.w.now.fresh a.stack.now.items q.1 a.outcome a.frame q.2

pub resume_value-requires-in-Theorem-clause-known : goal.resume_value-requires-in-Theorem-clause-known
resume_value-requires-in-Theorem-clause-known c = let a = c.args in let s = a.w.now.store in let nodes = a.w.now.phrases in let k = c.in-Theorem in let q = c.requires.known in let v = c.value_of-value in let p = c.conclude_part in let o = c.in_ok-frame-in-Theorem in
    (q.0, q.1, theorem_is_value (reading a.w.now) nodes s q.0 a.w.now.fresh a.stack.now.items q.1 p.new.base.nodes.items k.p v.result a.frame o.frame p.ensures.kept o.ensures.frame v.ensures.inside (v.ensures.value a.w.now.sig a.w.now.sorted) (rw k.is at q.2))

pub returns-in_ok-state-in-Value-clause-steps : goal.returns-in_ok-state-in-Value-clause-steps
returns-in_ok-state-in-Value-clause-steps c = λ fuel. rw c.in-Value.is (c.in_ok-state-in-Value.ensures.steps fuel)

pub returns-in_ok-state-in-Theorem-clause-steps : goal.returns-in_ok-state-in-Theorem-clause-steps
returns-in_ok-state-in-Theorem-clause-steps c = λ fuel. let a = c.args in let s = a.w.now.store in let nodes = a.w.now.phrases in let r = reading a.w.now in let k = c.in-Theorem in let t = c.resume_value-in-Theorem in let v = c.value_of-value in let p = c.conclude_part in let o = c.in_ok-frame-in-Theorem in
    rw k.is (steps_after nodes s _ _ _ _ _ t.new.w.store fuel t.new.w.fresh c.in_ok-state-in-Theorem.state t.new.stack.items (omega arith)
    (λ out m. theorem_is_value r nodes s fuel a.w.now.fresh a.stack.now.items out p.new.base.nodes.items k.p v.result a.frame o.frame p.ensures.kept o.ensures.frame v.ensures.inside (v.ensures.value a.w.now.sig a.w.now.sorted) m) (c.in_ok-state-in-Theorem.ensures.steps fuel))

pub returns-in-Error : goal.returns-in-Error
returns-in-Error c = let a = c.args in let s = a.w.now.store in let nodes = a.w.now.phrases in let r = reading a.w.now in let k = c.in-Error in record {
  passes = works_passes a.w.now a.w.now (works_none a.w.now);
  room = (omega arith, omega arith);
  steps = λ fuel. rw k.is (steps_same r nodes s _ _ fuel a.w.now.fresh _ a.stack.now.items (omega arith) (λ out m. error_passes r nodes s fuel a.w.now.fresh a.stack.now.items out k.place k.fault a.frame m));
}

pub returns-in-Exhausted : goal.returns-in-Exhausted
returns-in-Exhausted c = let a = c.args in let s = a.w.now.store in let nodes = a.w.now.phrases in let r = reading a.w.now in let k = c.in-Exhausted in record {
  passes = works_passes a.w.now a.w.now (works_none a.w.now);
  room = (omega arith, omega arith);
  steps = λ fuel. rw k.is (steps_same r nodes s _ _ fuel a.w.now.fresh _ a.stack.now.items (omega arith) (λ out m. exhaustion_passes r nodes s fuel a.w.now.fresh a.stack.now.items out k.place a.frame m));
}
