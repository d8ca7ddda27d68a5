use Rattle.std.proofs.Common.{sym, ◌∙◌, ap, List, Bool}
use Rattle.ath_unifiers.specs.Graphs.{is_marked, is_ready}
use Rattle.ath_unifiers.proofs.GraphCycles.{mark_one, fewer_unmarked}
use Rattle.ath_unifiers.proofs.graph.Graph.mark.Goals as goal

pub returns-clause-trees : goal.returns-clause-trees
returns-clause-trees c m =
    mark_one c.args.self.now c.args.grown.now.items c.args.at m (ap (λ (x : List Bool). is_ready c.args.self.now x c.args.at) (sym c.deref-else-is_marked.ensures.value) ∙ sym c.is_ready.ensures ∙ c.if-not-is_ready.false)

pub returns-clause-fewer : goal.returns-clause-fewer
returns-clause-fewer c t =
    fewer_unmarked c.args.grown.now.items c.args.at c.requires (ap (λ (x : List Bool). is_marked x c.args.at) (sym c.deref.ensures.value) ∙ sym c.is_marked.ensures ∙ c.if-is_marked.false)
