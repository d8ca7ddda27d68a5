use Rattle.ath_eval.proofs.Sound.{conclusions-follow}
use Rattle.ath_eval.proofs.laws.conclusions_follow.Goals as goal

pub returns : goal.returns
returns c = conclusions-follow
