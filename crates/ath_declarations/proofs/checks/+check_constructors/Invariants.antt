use Rattle.std.proofs.Common.{◌≡◌, drop, map}
use Rattle.ath_sorts.specs.Declaring.{first_fault}
use Rattle.ath_declarations.specs.Steps.{place_fault}
use Rattle.ath_declarations.proofs.checks.+check_constructors.Given as goal

abbrev pub invariant-loop-arg : goal.invariant-loop-arg
invariant-loop-arg l = first_fault (map (place_fault l.sig) l.arg-items) ≡ first_fault (map (place_fault l.sig) (drop l.arg-index l.arg-items))
