use Rattle.ath_declarations.proofs.Keeping.{symbols_valid}
use Rattle.ath_declarations.proofs.laws.symbols_keep_validity.Goals as goal

pub returns : goal.returns
returns c old new names list args result v d h = symbols_valid old new names list args result v d h
