use Rattle.ath_unifiers.proofs.UnifierLaws.{agree, factors}
use Rattle.ath_unifiers.proofs.laws.least_unifiers.Goals as goal

pub returns-clause-unifiers_factor : goal.returns-clause-unifiers_factor
returns-clause-unifiers_factor c s pairs f m u v = factors s pairs f m u v

pub returns-clause-least_unifiers_agree : goal.returns-clause-least_unifiers_agree
returns-clause-least_unifiers_agree c s t pairs m n v = agree s t pairs m n v
