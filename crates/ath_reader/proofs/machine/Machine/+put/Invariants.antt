use Rattle.std.proofs.Common.{length}
use Rattle.ath_reader.proofs.machine.Machine.+put.Given as goal

abbrev pub decreases-put : goal.decreases-put
decreases-put l = length l.items.now
