use Rattle.ath_trees.specs.Variables.{free_vars}
use Rattle.ath_trees.proofs.Occurring.{unnamed}
use Rattle.ath_terms.specs.Trees.{sent_at}
use Rattle.ath_subst.proofs.captures.sent_lacks.Goals as goal

pub returns : goal.returns
returns c = λ e. unnamed c.args.x.now (free_vars (sent_at c.args.store.now.sents c.args.p.0)) (c.sent_lacks_name.ensures e)
