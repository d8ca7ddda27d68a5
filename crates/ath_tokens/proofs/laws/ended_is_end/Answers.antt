use Rattle.ath_tokens.proofs.CutLaws.{ended_is_end as law}
use Rattle.ath_tokens.proofs.laws.ended_is_end.Goals as goal

pub returns : goal.returns
returns c text from within e = law text from within e
