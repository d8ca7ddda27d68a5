use Rattle.std.proofs.Common.{◌∙◌}
use Rattle.ath_unifiers.proofs.GraphCycles.{fewer_turn, same_turn, stuck_turn}
use Rattle.ath_unifiers.proofs.graph.Graph.grow.Goals as goal

pub loop-at-preserved : goal.loop-at-preserved
loop-at-preserved c =
    let before = c.loop-at.grown.items in
    let next = c.mark-any.new.grown.items in
    let first = c.args.grown.now.items in
    let i = c.loop-at.invariant in
    let m = c.mark-any.ensures in
    record {
      trees = λ t. m.trees (i.trees t);
      even = m.even ∙ i.even;
      fewer = fewer_turn first before next c.loop-at.any c.mark-any.result i.fewer i.same m.fewer m.same;
      same = same_turn first before next c.loop-at.any c.mark-any.result i.same m.same;
      stuck = stuck_turn c.args.self.now before next c.loop-at.any c.mark-any.result c.loop-at.at i.stuck m.same m.stuck;
    }
