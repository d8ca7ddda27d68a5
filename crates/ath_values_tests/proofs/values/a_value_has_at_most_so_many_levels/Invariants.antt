use Rattle.ath_values.specs.Nodes.{IsValueIn}
use Rattle.ath_values_tests.proofs.values.a_value_has_at_most_so_many_levels.Given as goal

abbrev pub invariant-loop-level : goal.invariant-loop-level
invariant-loop-level g l = IsValueIn l.envs l.v
