use Rattle.ath_equality.specs.Equality.{equal_values}
use Rattle.ath_equality.specs.Nodes.{Tells, weight}
use Rattle.ath_syntax.specs.Nodes.{Nodes}
use Rattle.ath_values.specs.Stands.{IsValue}
use Rattle.ath_values.specs.Values.{ValueTree}
use Rattle.ath_equality.proofs.equality.are_equal.Given as goal

abbrev pub invariant-loop-pair : goal.invariant-loop-pair
invariant-loop-pair l = (p : Nodes) (t u : ValueTree) → IsValue p l.store l.envs l.fn.v t → IsValue p l.store l.envs l.fn.w u → Tells p l.store l.envs l.left.items (equal_values t u)

abbrev pub decreases-loop-pair : goal.decreases-loop-pair
decreases-loop-pair l = weight l.envs l.left.items
