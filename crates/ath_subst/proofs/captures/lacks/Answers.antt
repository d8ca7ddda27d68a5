use Rattle.ath_trees.specs.Variables.{term_vars}
use Rattle.ath_trees.proofs.Occurring.{unnamed}
use Rattle.ath_terms.specs.Trees.{term_at}
use Rattle.ath_subst.proofs.captures.lacks.Goals as goal

pub returns : goal.returns
returns c = λ e. unnamed c.args.x.now (term_vars (term_at c.args.store.now.terms c.args.t.0)) (c.lacks_name.ensures e)
