use Rattle.ath_eval.proofs.Fuel.{never-rises}
use Rattle.ath_session.proofs.Sound.{fuel_never_rises}
use Rattle.ath_session.proofs.laws.fuel_never_rises.Goals as goal

pub returns : goal.returns
returns c = fuel_never_rises never-rises
