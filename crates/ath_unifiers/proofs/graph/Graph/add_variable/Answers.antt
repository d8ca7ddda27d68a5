use Rattle.std.proofs.Common.{◌∙◌}
use Rattle.ath_unifiers.proofs.GraphGrowth.{adds_leaf, adds_known}
use Rattle.ath_unifiers.proofs.graph.Graph.add_variable.Goals as goal

pub returns-in-Some : goal.returns-in-Some
returns-in-Some c = adds_known c.args.self.now c.args.v c.in-Some.at c.in-Some.ensures

pub returns : goal.returns
returns c =
    let p = c.in_ok-added.ensures in
    adds_leaf c.args.self.now (record { nodes = c.push_leaf.new.self; class = c.push.new.self }) c.args.v c.in_ok-added.added c.in_default.ensures (p.at ∙ c.requires.even) c.in_ok-push_leaf.ensures p.class
