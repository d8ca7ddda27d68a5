use Rattle.std.proofs.Common.{◌+◌, ap}
use Rattle.ath_sorts.specs.Sorts.{image}
use Rattle.ath_construction.proofs.ConstructionLaws.{sent-few}
use Rattle.ath_construction.proofs.QuantifierLaws.{quantifier-measured}
use Rattle.ath_construction.proofs.quantifiers.check_quantifier.Goals as goal

pub returns-clause-few : goal.returns-clause-few
returns-clause-few c = λ k. sent-few c.is_quantifier_within-small.result _ _ _ _ c.check_limits.ensures (ap (λ n. 1 + n) c.sent_size-nodes.ensures.same) (ap (λ n. 1 + n) c.sent_depth-levels.ensures.same)

pub returns-clause-measured : goal.returns-clause-measured
returns-clause-measured c = λ sig h k. quantifier-measured sig (image c.args.subst.now) k c.args.v.now _ c.is_quantifier_within-small.result c.sent_size-nodes.result c.sent_depth-levels.result _
    (c.is_quantifier_within-small.ensures sig h) c.sent_size-nodes.ensures.same c.sent_depth-levels.ensures.same c.check_limits.ensures
