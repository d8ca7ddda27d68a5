use Rattle.std.proofs.Common.{◌≡◌, ◌++◌, drop, map}
use Rattle.ath_eval.specs.Arguments.{piece_value}
use Rattle.ath_eval.proofs.kinds.as_parts.Given as goal

abbrev pub invariant-loop-arg : goal.invariant-loop-arg
invariant-loop-arg l = l.args ≡ map piece_value l.found.items ++ drop l.arg-index l.args
