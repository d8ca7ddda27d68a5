use Rattle.std.proofs.Common.{◌≡◌, take}
use Rattle.ath_sorts.proofs.signature.symbol_over.Given as goal

abbrev pub invariant-loop-arg : goal.invariant-loop-arg
invariant-loop-arg l = l.copies ≡ take l.arg-index l.args
