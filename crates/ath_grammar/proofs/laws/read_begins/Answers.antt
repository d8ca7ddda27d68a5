-- The law is the lemma.
use Rattle.ath_grammar.proofs.Readings.{begins}
use Rattle.ath_grammar.proofs.laws.read_begins.Goals as goal

pub returns : goal.returns
returns c = begins
