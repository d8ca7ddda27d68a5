use Rattle.ath_trees.proofs.InstanceLaws.{found}
use Rattle.ath_trees.proofs.laws.instances_are_found.Goals as goal

pub returns : goal.returns
returns c = found
