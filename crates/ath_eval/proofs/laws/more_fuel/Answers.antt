use Rattle.ath_eval.proofs.Fuel.{more-fuel}
use Rattle.ath_eval.proofs.laws.more_fuel.Goals as goal

pub returns : goal.returns
returns c = more-fuel
