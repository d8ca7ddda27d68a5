use Rattle.std.proofs.Common.{take}
use Rattle.ath_unifiers.proofs.Partitions.{Filed}
use Rattle.ath_unifiers.proofs.partition.file.Given as goal

abbrev pub invariant-loop-i : goal.invariant-loop-i
invariant-loop-i l = Filed l.from l.into (take l.i l.members) l.initial.block l.block
