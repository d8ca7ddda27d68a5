use Rattle.ath_unifiers.proofs.Outcomes as outcomes
use Rattle.ath_unifiers.proofs.laws.unified_is.Goals as goal

pub returns : goal.returns
returns c pairs = outcomes.unified_is pairs
