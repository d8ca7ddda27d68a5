use Rattle.ath_eval.proofs.Sound.{values-sorted}
use Rattle.ath_eval.proofs.laws.values_are_sorted.Goals as goal

pub returns : goal.returns
returns c = values-sorted
