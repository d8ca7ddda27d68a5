use Rattle.ath_declarations.proofs.Narrow.{symbols_narrow}
use Rattle.ath_declarations.proofs.laws.symbols_keep_narrow.Goals as goal

pub returns : goal.returns
returns c old new names list args result n h = symbols_narrow old new names list args result n h
