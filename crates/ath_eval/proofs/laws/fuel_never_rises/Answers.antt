use Rattle.ath_eval.proofs.Fuel.{never-rises}
use Rattle.ath_eval.proofs.laws.fuel_never_rises.Goals as goal

pub returns : goal.returns
returns c = never-rises
