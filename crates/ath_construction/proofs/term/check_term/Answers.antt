use Rattle.ath_sorts.specs.Sorts.{image}
use Rattle.ath_construction.proofs.TermLaws.{term-measured}
use Rattle.ath_construction.proofs.term.check_term.Goals as goal

pub returns : goal.returns
returns c = λ sig h. term-measured sig c.args.store.now (image c.args.subst.now) c.args.t.0 c.is_term_within-small.result c.size-nodes.result c.depth-levels.result _ (c.is_term_within-small.ensures sig h) c.size-nodes.ensures.same c.depth-levels.ensures.same c.check_limits.ensures
