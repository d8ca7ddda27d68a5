use Rattle.ath_eval.proofs.Fuel.{take-few}
use Rattle.ath_eval.proofs.laws.steps_take_few.Goals as goal

pub returns : goal.returns
returns c = take-few
