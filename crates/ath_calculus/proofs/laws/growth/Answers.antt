use Rattle.ath_calculus.proofs.Grown.{derivation_kept}
use Rattle.ath_calculus.proofs.laws.growth.Goals as goal

pub returns : goal.returns
returns c = λ old new fewer others hyps p grown among d. derivation_kept old new grown fewer others among d
