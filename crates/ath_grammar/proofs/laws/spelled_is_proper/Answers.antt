use Rattle.ath_grammar.proofs.ProperRead.{spelled_is_proper}
use Rattle.ath_grammar.proofs.laws.spelled_is_proper.Goals as goal

pub returns : goal.returns
returns c = spelled_is_proper
