-- What is printed is read back.
use Rattle.ath_reading_back.proofs.ReadBack.{prints_are_read_back}
use Rattle.ath_reading_back.proofs.laws.prints_are_read_back.Goals as goal

-- src/laws.rt:7:1
pub returns : goal.returns
returns c = prints_are_read_back
