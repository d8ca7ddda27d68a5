use Rattle.std.proofs.Common.{◌+◌, map, ap}
use Rattle.ath_trees.specs.Tree.{listed}
use Rattle.ath_terms.specs.Trees.{term_at}
use Rattle.ath_construction.proofs.ConstructionLaws.{listed-few}
use Rattle.ath_construction.proofs.application.check_app.Goals as goal

pub returns-clause-few : goal.returns-clause-few
returns-clause-few c = listed-few c.is_app_within-small.result _ _ (listed (map (λ i. term_at c.args.store.now.terms i.0) c.args.args.now)) _ c.check_limits.ensures (ap (λ k. 1 + k) c.list_size-nodes.ensures.same) (ap (λ k. 1 + k) c.list_depth-levels.ensures.same)
