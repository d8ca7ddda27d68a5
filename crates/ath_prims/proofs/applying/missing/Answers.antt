use Rattle.std.proofs.Common.{arith, ◌∙◌}
use Rattle.ath_prims.proofs.Fitting.{is-passed}
use Rattle.ath_prims.proofs.applying.missing.Goals as goal

pub loop-i-preserved : goal.loop-i-preserved
loop-i-preserved c = λ s. let a = c.args in
    c.loop-i.invariant s ∙ is-passed s a.premises.now a.args.now c.loop-i.i _ _ (omega (arith, c.loop-i-test.true)) (omega (arith, c.loop-i-test.true, c.requires)) c.is_lacking.result c.is_lacking.ensures c.if-is_lacking.false
