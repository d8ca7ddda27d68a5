use Rattle.ath_session.proofs.Sound.{exhausted_keeps_state}
use Rattle.ath_session.proofs.laws.exhausted_keeps_state.Goals as goal

pub returns : goal.returns
returns c = exhausted_keeps_state
