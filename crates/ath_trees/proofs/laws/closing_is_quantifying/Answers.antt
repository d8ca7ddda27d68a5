use Rattle.ath_trees.proofs.ClosingLaws.{closes}
use Rattle.ath_trees.proofs.laws.closing_is_quantifying.Goals as goal

pub returns : goal.returns
returns c = closes
