use Rattle.ath_declarations.proofs.Keeping.{symbols_there}
use Rattle.ath_declarations.proofs.laws.symbols_are_there.Goals as goal

pub returns : goal.returns
returns c old new names list args result h = symbols_there old new names list args result h
