use Rattle.ath_prims.proofs.Rows.{answers-follow}
use Rattle.ath_prims.proofs.laws.answers_follow.Goals as goal

pub returns : goal.returns
returns c = answers-follow
