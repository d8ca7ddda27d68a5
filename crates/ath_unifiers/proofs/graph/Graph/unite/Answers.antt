use Rattle.std.proofs.Common.{sym, ◌∙◌, ap, subst, ℕ, List, ◌++◌, ◌∷◌, [], ◌<◌}
use Rattle.ath_unifiers.specs.Graphs.{AreThere, Unites, joins_left}
use Rattle.ath_unifiers.proofs.GraphUnions.{unites_first, last_there, none_from_last, joins_when, none_when}
use Rattle.ath_unifiers.proofs.graph.Graph.unite.Goals as goal

pub loop-left-init : goal.loop-left-init
loop-left-init c =
    let g = c.args.self.now in
    let e = c.in_ok-push.ensures.ok ∙ ap (λ (w : List (ℕ × ℕ)). w ++ (c.args.a, c.args.b) ∷ []) c.new-waiting.ensures in
    subst (λ (w : List (ℕ × ℕ)). Unites g g w c.args.a c.args.b) (sym e) (unites_first g c.requires.graph c.requires.closed c.args.a c.args.b c.requires.a_there c.requires.b_there)

pub join-requires-clause-a_there : goal.join-requires-clause-a_there
join-requires-clause-a_there c = (last_there c.loop-left.self.nodes c.pop.new.self (c.in-Some.left, c.in-Some.right) (subst (AreThere c.loop-left.self.nodes) c.in-Some.ensures c.loop-left.invariant.there)).0

pub join-requires-clause-b_there : goal.join-requires-clause-b_there
join-requires-clause-b_there c = (last_there c.loop-left.self.nodes c.pop.new.self (c.in-Some.left, c.in-Some.right) (subst (AreThere c.loop-left.self.nodes) c.in-Some.ensures c.loop-left.invariant.there)).1

pub returns-then-not-branch : goal.returns-then-not-branch
returns-then-not-branch c =
    none_from_last c.args.self.now c.loop-left.self c.pop.new.self c.loop-left.waiting c.in-Some.left c.in-Some.right c.args.a c.args.b c.loop-left.invariant c.in-Some.ensures
    (none_when c.loop-left.self c.join.new.self c.pop.new.self c.join.new.waiting c.in-Some.left c.in-Some.right c.in_ok-join.field-0 c.if-not-branch.true c.in_ok-join.ensures)

pub loop-left-preserved : goal.loop-left-preserved
loop-left-preserved c =
    let j = joins_when c.loop-left.self c.join.new.self c.pop.new.self c.join.new.waiting c.in-Some.left c.in-Some.right c.in_ok-join.field-0 c.if-not-branch.false c.in_ok-join.ensures in
    j.unites c.args.self.now c.args.a c.args.b (subst (λ (w : List (ℕ × ℕ)). Unites c.args.self.now c.loop-left.self w c.args.a c.args.b) c.in-Some.ensures c.loop-left.invariant)

pub loop-left-smaller : goal.loop-left-smaller
loop-left-smaller c =
    let j = joins_when c.loop-left.self c.join.new.self c.pop.new.self c.join.new.waiting c.in-Some.left c.in-Some.right c.in_ok-join.field-0 c.if-not-branch.false c.in_ok-join.ensures in
    subst (λ (w : List (ℕ × ℕ)). joins_left c.join.new.self c.join.new.waiting < joins_left c.loop-left.self w) (sym c.in-Some.ensures) j.fewer
