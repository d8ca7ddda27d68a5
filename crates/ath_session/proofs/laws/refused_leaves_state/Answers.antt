use Rattle.ath_session.proofs.Sound.{refused_leaves_state}
use Rattle.ath_session.proofs.laws.refused_leaves_state.Goals as goal

pub returns : goal.returns
returns c = refused_leaves_state
