use Rattle.ath_tokens.proofs.CutLaws.{found_is_longest as law}
use Rattle.ath_tokens.proofs.laws.found_is_longest.Goals as goal

pub returns : goal.returns
returns c text from token start end within e = law text from token start end within e
