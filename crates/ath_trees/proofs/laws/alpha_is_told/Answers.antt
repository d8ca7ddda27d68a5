use Rattle.ath_trees.proofs.InstanceLaws.{alpha_told}
use Rattle.ath_trees.proofs.laws.alpha_is_told.Goals as goal

pub returns : goal.returns
returns c = alpha_told
