use Rattle.std.proofs.Common.{◌∙◌}
use Rattle.ath_unifiers.proofs.GraphUnions.{pairs_turn}
use Rattle.ath_unifiers.proofs.graph.add_pairs.Goals as goal

pub loop-i-preserved : goal.loop-i-preserved
loop-i-preserved c = c.in_ok-push.ensures.ok ∙ pairs_turn c.args.waiting.now c.loop-i.waiting c.args.xs.now c.args.ys.now c.loop-i.i c.loop-i-test.true c.requires c.loop-i.invariant
