use Rattle.ath_declarations.proofs.Keeping.{symbols_keep}
use Rattle.ath_declarations.proofs.laws.symbols_keep.Goals as goal

pub returns : goal.returns
returns c old new names list args result h = symbols_keep old new names list args result h
