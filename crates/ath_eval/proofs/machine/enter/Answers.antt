use Rattle.std.proofs.Common.{◌-◌, arith}
use Rattle.ath_terms.proofs.Grow.{grows-none}
use Rattle.ath_eval.specs.Stretches.{reading}
use Rattle.ath_eval.proofs.Stretches.{rank_below, steps_same, steps_after, enters_empty, enters_deep, enters_form}
use Rattle.ath_eval.proofs.machine.enter.Goals as goal

pub returns-then-w-eq0-clause-steps : goal.returns-then-w-eq0-clause-steps
returns-then-w-eq0-clause-steps c = let a = c.args in let s = a.w.now.store in let nodes = a.w.now.phrases in let r = reading a.w.now in
    steps_same r nodes s _ _ _ _ _ _ (omega arith) (λ out m. enters_empty r nodes s a.w.now.fresh a.phrase a.stack.now.items out c.node.result.now c.node.ensures.node a.levels a.w.now.fuel c.if-w-eq0.true m)

pub returns-then-levels-eq0-clause-steps : goal.returns-then-levels-eq0-clause-steps
returns-then-levels-eq0-clause-steps c = let a = c.args in let s = a.w.now.store in let nodes = a.w.now.phrases in let r = reading a.w.now in record {
  grows = grows-none s;
  means = λ out m. enters_deep r nodes s a.w.now.fresh a.phrase a.stack.now.items out c.node.result.now c.node.ensures.node a.levels a.w.now.fuel c.if-w-eq0.false c.if-levels-eq0.true c.bare.result (c.bare.ensures s) m;
  falls = omega (arith, rank_below c.bare.result);
}

pub returns-clause-steps : goal.returns-clause-steps
returns-clause-steps c = let a = c.args in let s = a.w.now.store in let nodes = a.w.now.phrases in let r = reading a.w.now in let e = c.enter_form.new in let o = c.in_ok-state in
    rw o.ensures.works.fuel (steps_after nodes s _ _ _ _ _ e.w.store (a.w.now.fuel - 1) e.w.fresh o.state e.stack.items (omega arith)
    (λ out m. enters_form r nodes s a.w.now.fresh a.phrase a.stack.now.items out a.levels a.w.now.fuel c.if-w-eq0.false c.if-levels-eq0.false m) (o.ensures.steps (a.w.now.fuel - 1)))
