use Rattle.std.proofs.Common.{◌∙◌, ap, not, refl}
use Rattle.std.specs.List.{list_all}
use Rattle.ath_unifiers.proofs.GraphCycles.{acyclic_is, none_false}
use Rattle.ath_unifiers.proofs.graph.Graph.is_acyclic.Goals as goal

pub returns : goal.returns
returns c =
    let marks = c.grow.new.grown.items in
    acyclic_is c.args.self.now marks (not c.contains.result) c.requires (c.grow.ensures.trees c.passes.invariant.0) (c.grow.ensures.even ∙ c.passes.invariant.1) (c.grow.ensures.stuck c.passes-test.false)
    (ap not c.contains.ensures.value ∙ none_false _ refl refl c.deref.result.now ∙ ap (list_all (λ m. m)) c.deref.ensures.value)
