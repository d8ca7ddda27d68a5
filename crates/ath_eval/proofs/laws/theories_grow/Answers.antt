use Rattle.ath_eval.proofs.Kept.{theories-grow}
use Rattle.ath_eval.proofs.laws.theories_grow.Goals as goal

pub returns : goal.returns
returns c = theories-grow
