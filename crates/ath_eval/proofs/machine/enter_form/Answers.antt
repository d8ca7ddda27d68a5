use Rattle.std.proofs.Common.{refl, arith}
use Rattle.ath_terms.proofs.Grow.{grows-none}
use Rattle.ath_base.proofs.Scopes.{keeps-none}
use Rattle.ath_env.specs.LookUp.{looked_up}
use Rattle.ath_eval.specs.Evaluation.{found, variable, unbuilt}
use Rattle.ath_eval.specs.declared.frame.Frame.TheVariants.{Head, Ascription}
use Rattle.ath_eval.specs.declared.frame.Use.TheVariants as uses
use Rattle.ath_eval.specs.Outcomes.{left_of}
use Rattle.ath_eval.specs.Stretches.{reading, reading_after}
use Rattle.ath_eval.proofs.Stretches.{steps_done, steps_push, form_named, form_varied, form_ascribed, form_applied, form_called, form_unbuilt}
use Rattle.ath_eval.proofs.machine.enter_form.Goals as goal

pub variable-requires-clause-meant : goal.variable-requires-clause-meant
variable-requires-clause-meant c = (c.in-Var.text, c.written_sort-sort.ensures)

pub returns-in_ok-outcome-in-Name-clause-steps : goal.returns-in_ok-outcome-in-Name-clause-steps
returns-in_ok-outcome-in-Name-clause-steps c = λ fuel. let a = c.args in let s = a.w.now.store in let nodes = a.w.now.phrases in let r = reading a.w.now in let n = c.node-node.result.now in let o = c.in_ok-outcome-in-Name in let fs = a.stack.now.items in
    steps_done r nodes s _ _ (reading_after a.w.now c.find.new.w) c.find.new.w.store fuel c.find.new.w.fresh o.outcome fs refl o.ensures.works.world.base o.ensures.works.world.grows (omega arith)
    (λ out m. (found r.context c.in-Name.name n.pos (looked_up r.context.names r.context.theory.signature c.in-Name.name) (left_of fuel a.w.now.fresh), o.ensures.outcome fuel, form_named r nodes s a.w.now.fresh a.phrase fs out n c.node-node.ensures.node a.levels fuel c.in-Name.name c.in-Name.is m))

pub returns-in_ok-push-in-Apply-clause-steps : goal.returns-in_ok-push-in-Apply-clause-steps
returns-in_ok-push-in-Apply-clause-steps c = λ fuel. let a = c.args in let s = a.w.now.store in let nodes = a.w.now.phrases in let r = reading a.w.now in let n = c.node-node.result.now in let k = c.in-Apply in let fs = a.stack.now.items in
    steps_push r nodes s _ _ fuel a.w.now.fresh k.head a.levels fs (Head uses.Apply a.phrase a.levels r.scope) c.push-in-Apply.new.self.items c.in_ok-push-in-Apply.ensures.items (omega arith)
    (λ out m. form_applied r nodes s a.w.now.fresh a.phrase fs out n c.node-node.ensures.node a.levels fuel k.head k.field-1 k.is m)

pub returns-in_ok-push-in-Call-clause-steps : goal.returns-in_ok-push-in-Call-clause-steps
returns-in_ok-push-in-Call-clause-steps c = λ fuel. let a = c.args in let s = a.w.now.store in let nodes = a.w.now.phrases in let r = reading a.w.now in let n = c.node-node.result.now in let k = c.in-Call in let fs = a.stack.now.items in
    steps_push r nodes s _ _ fuel a.w.now.fresh k.head a.levels fs (Head uses.Call a.phrase a.levels r.scope) c.push-in-Call.new.self.items c.in_ok-push-in-Call.ensures.items (omega arith)
    (λ out m. form_called r nodes s a.w.now.fresh a.phrase fs out n c.node-node.ensures.node a.levels fuel k.head k.field-1 k.is m)

pub returns-in_ok-outcome-in-Var-clause-steps : goal.returns-in_ok-outcome-in-Var-clause-steps
returns-in_ok-outcome-in-Var-clause-steps c = λ fuel. let a = c.args in let s = a.w.now.store in let nodes = a.w.now.phrases in let r = reading a.w.now in let n = c.node-node.result.now in let o = c.in_ok-outcome-in-Var in let fs = a.stack.now.items in let k = c.in-Var in
    steps_done r nodes s _ _ (reading_after a.w.now c.variable.new.w) c.variable.new.w.store fuel c.variable.new.w.fresh o.outcome fs refl o.ensures.works.world.base o.ensures.works.world.grows (omega arith)
    (λ out m. (variable r.context k.name k.index k.text n.pos (left_of fuel a.w.now.fresh), o.ensures.outcome k.text c.written_sort-sort.ensures fuel, form_varied r nodes s a.w.now.fresh a.phrase fs out n c.node-node.ensures.node a.levels fuel k.name k.index k.text k.is m))

pub returns-in_ok-push-in-Ascribe-clause-steps : goal.returns-in_ok-push-in-Ascribe-clause-steps
returns-in_ok-push-in-Ascribe-clause-steps c = λ fuel. let a = c.args in let s = a.w.now.store in let nodes = a.w.now.phrases in let r = reading a.w.now in let n = c.node-node.result.now in let k = c.in-Ascribe in let fs = a.stack.now.items in
    steps_push r nodes s _ _ fuel a.w.now.fresh k.part a.levels fs (Ascription a.phrase) c.push.new.self.items c.in_ok-push-in-Ascribe.ensures.items (omega arith)
    (λ out m. form_ascribed r nodes s a.w.now.fresh a.phrase fs out n c.node-node.ensures.node a.levels fuel k.part k.field-1 k.is m)

pub returns-in_default-clause-steps : goal.returns-in_default-clause-steps
returns-in_default-clause-steps c = λ fuel. let a = c.args in let w = a.w.now in let s = w.store in let nodes = w.phrases in let r = reading w in let n = c.node-node.result.now in let fs = a.stack.now.items in
    steps_done r nodes s _ _ r s fuel w.fresh c.bare.result fs refl (keeps-none r.base) (grows-none s) (omega arith)
    (λ out m. (unbuilt n.pos (left_of fuel w.fresh), c.bare.ensures s w.fresh fuel, form_unbuilt r nodes s w.fresh a.phrase fs out n c.node-node.ensures.node a.levels fuel c.in_default.not-Name c.in_default.not-Var c.in_default.not-Ascribe c.in_default.not-Apply c.in_default.not-Call m))
