use Rattle.ath_alpha.proofs.KeyLaws.{instances-alike}
use Rattle.ath_alpha.proofs.laws.instances_have_one_key.Goals as goal

pub returns : goal.returns
returns c = instances-alike
