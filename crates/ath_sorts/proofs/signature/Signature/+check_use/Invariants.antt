use Rattle.std.proofs.Common.{◌≡◌, drop}
use Rattle.ath_sorts.specs.Declaring.{use_faults}
use Rattle.ath_sorts.proofs.signature.Signature.+check_use.Given as goal

abbrev pub invariant-loop-arg : goal.invariant-loop-arg
invariant-loop-arg l = use_faults l.self l.params l.arg-items ≡ use_faults l.self l.params (drop l.arg-index l.arg-items)
