use Rattle.std.proofs.Common.{◌∙◌}
use Rattle.ath_sorts.specs.Sorts.{image}
use Rattle.ath_construction.proofs.ConnectiveLaws.{connective-measured, small-connected}
use Rattle.ath_construction.proofs.ConstructionLaws.{sent-few}
use Rattle.ath_construction.proofs.connectives.check_connective.Goals as goal

pub returns-clause-measured : goal.returns-clause-measured
returns-clause-measured c = λ sig h. connective-measured sig (image c.args.subst.now) _ c.are_sents_within-small.result c.connected_size-nodes.result c.connected_depth-levels.result _
    (c.are_sents_within-small.ensures sig h ∙ small-connected sig (image c.args.subst.now) c.args.store.now.sents c.args.c c.args.parts.now c.requires.count)
    c.connected_size-nodes.ensures c.connected_depth-levels.ensures c.check_limits.ensures

pub returns-clause-few : goal.returns-clause-few
returns-clause-few c = sent-few c.are_sents_within-small.result _ _ _ _ c.check_limits.ensures c.connected_size-nodes.ensures c.connected_depth-levels.ensures
