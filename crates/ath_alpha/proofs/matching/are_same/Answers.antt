use Rattle.ath_terms.proofs.VariableLaws.{tells_same}
use Rattle.ath_alpha.proofs.matching.are_same.Goals as goal

pub returns : goal.returns
returns c = tells_same c.is_same.result c.args.s.now c.args.t.now c.is_same.ensures
