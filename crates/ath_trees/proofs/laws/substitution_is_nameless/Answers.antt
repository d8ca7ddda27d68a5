use Rattle.ath_trees.proofs.SubstLaws.{substituted}
use Rattle.ath_trees.proofs.laws.substitution_is_nameless.Goals as goal

pub returns : goal.returns
returns c = substituted
