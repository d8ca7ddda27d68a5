use Rattle.std.proofs.Common.{sym, ◌∙◌, ap, subst, slice_get, List, ◌+◌}
use Rattle.ath_unifiers.specs.declared.nodes.Node.{Node}
use Rattle.ath_sorts.specs.declared.sorts.SVar.{SVar}
use Rattle.ath_sorts.specs.declared.sorts.Sort.{Sort}
use Rattle.ath_unifiers.specs.Graphs.{IsSolution}
use Rattle.ath_unifiers.proofs.GraphSolutions.{solution_stays, solution_maps, small_depth}
use Rattle.ath_unifiers.proofs.graph.Graph.add_image.Goals as goal

pub returns-then-class_of-at : goal.returns-then-class_of-at
returns-then-class_of-at c h = solution_stays c.args.self.now c.requires.graph c.args.at c.args.solution.now h c.in-Some.v (ap (λ (ns : List Node). slice_get ns c.args.at) (sym c.as_slice.ensures) ∙ c.in-Some.ensures) (sym c.class_of.ensures ∙ c.if-class_of-at.true)

pub tree-requires : goal.tree-requires
tree-requires c =
    let t = c.requires.trees c.args.at c.requires.within in
    (t.0, (t.1, small_depth t.0 (c.requires.small c.args.at c.in-Some.v t.0 (ap (λ (ns : List Node). slice_get ns c.args.at) (sym c.as_slice.ensures) ∙ c.in-Some.ensures) t.1)))

pub returns : goal.returns
returns c h =
    let r = solution_maps c.args.self.now c.requires.graph c.args.at c.args.solution.now h c.in-Some.v c.in_ok-image.image (ap (λ (ns : List Node). slice_get ns c.args.at) (sym c.as_slice.ensures) ∙ c.in-Some.ensures) (λ e. c.if-class_of-at.false (c.class_of.ensures ∙ e)) c.in_ok-image.ensures in
    subst (λ (s : List (SVar × Sort)). IsSolution c.args.self.now (c.args.at + 1) s) (sym c.in_ok-push.ensures) r
