use Rattle.ath_trees.proofs.BindingLaws.{bindings-agree}
use Rattle.ath_trees.proofs.laws.bindings_agree.Goals as goal

pub returns : goal.returns
returns c = bindings-agree
