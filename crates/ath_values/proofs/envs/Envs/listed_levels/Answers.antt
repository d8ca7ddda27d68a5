use Rattle.std.proofs.Common.{arith, ap, ◌∙◌, max}
use Rattle.ath_values.proofs.Made.{levels_next}
use Rattle.ath_values.proofs.envs.Envs.listed_levels.Goals as goal

pub loop-i-preserved : goal.loop-i-preserved
loop-i-preserved c = record {
  most = c.max-most.ensures ∙ ap (λ n. max c.loop-i.most n) c.levels.ensures.same ∙ levels_next c.args.self.now c.args.items.now c.loop-i.i (record { 0 = 0 }) c.loop-i.most (omega arith) c.loop-i.invariant.most;
  few = omega (arith, c.max-most.ensures, c.levels.ensures.few, c.loop-i.invariant.few);
}
