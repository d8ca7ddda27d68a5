use Rattle.std.proofs.Common.{arith, ap, ◌∙◌, ◌+◌}
use Rattle.ath_values.proofs.Made.{nodes_next}
use Rattle.ath_values.proofs.envs.Envs.listed_nodes.Goals as goal

pub loop-i-preserved : goal.loop-i-preserved
loop-i-preserved c = record {
  sum = ap (λ n. c.loop-i.total + n) c.nodes-total.ensures.same ∙ nodes_next c.args.self.now c.args.items.now c.loop-i.i (record { 0 = 0 }) c.loop-i.total (omega arith) c.loop-i.invariant.sum;
  few = omega (arith, c.nodes-total.ensures.few, c.loop-i.invariant.few);
}
