use Rattle.std.proofs.Common.{◌≡◌, sym, ◌∙◌, true, false}
use Rattle.ath_unifiers.proofs.GraphPairs.{stands_same, equated}
use Rattle.ath_unifiers.proofs.graph.Graph.equate.Goals as goal

pub returns-then-is_same : goal.returns-then-is_same
returns-then-is_same c pairs h = stands_same c.args.self.now pairs c.args.left.now c.args.right.now (c.is_same.ensures.0 c.if-is_same.true) h

pub returns : goal.returns
returns c pairs h =
    equated c.args.self.now c.add.new.self c.add-2.new.self c.args.left.now c.args.right.now c.in_ok-left.left c.in_ok-right.right c.requires.graph c.in_ok-left.ensures c.in_ok-right.ensures c.unite.new.self pairs c.in_ok-ok.ok (λ e. true_not_false (sym (c.is_same.ensures.1 e) ∙ c.if-is_same.false)) c.in_ok-ok.ensures h
  where
    true_not_false : true ≡ false → ⊥
    true_not_false e = cc
