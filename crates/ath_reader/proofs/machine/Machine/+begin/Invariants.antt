use Rattle.ath_reader.proofs.machine.Machine.+begin.Given as goal

abbrev pub decreases-begin : goal.decreases-begin
decreases-begin l = l.steps
