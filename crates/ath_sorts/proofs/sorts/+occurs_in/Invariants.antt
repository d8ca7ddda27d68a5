use Rattle.std.proofs.Common.{◌≡◌, drop, map}
use Rattle.std.specs.List.{list_any}
use Rattle.ath_sorts.specs.Sorts.{occurs}
use Rattle.ath_sorts.proofs.sorts.+occurs_in.Given as goal

abbrev pub invariant-loop-arg : goal.invariant-loop-arg
invariant-loop-arg l = list_any (λ b. b) (map (occurs l.v) l.arg-items) ≡ list_any (λ b. b) (map (occurs l.v) (drop l.arg-index l.arg-items))
