use Rattle.std.proofs.Common.{◌≡◌, ◌++◌, take}
use Rattle.ath_unifiers.proofs.partition.absorb.Given as goal

abbrev pub invariant-loop-member : goal.invariant-loop-member
invariant-loop-member l = (l.block.name ≡ l.initial.block.name) × (l.block.members ≡ l.initial.block.members ++ take l.member-index l.more)
