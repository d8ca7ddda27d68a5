use Rattle.ath_calculus.specs.Derives.{weaken}
use Rattle.ath_calculus.proofs.laws.weakening.Goals as goal

pub returns : goal.returns
returns c = λ th asserted some hyps p h i d. weaken h i d
