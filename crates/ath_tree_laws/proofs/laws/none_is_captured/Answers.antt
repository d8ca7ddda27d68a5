use Rattle.ath_tree_laws.proofs.FreeLaws.{none-captured}
use Rattle.ath_tree_laws.proofs.laws.none_is_captured.Goals as goal

pub returns : goal.returns
returns c = none-captured
