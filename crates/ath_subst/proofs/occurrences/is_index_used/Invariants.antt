use Rattle.std.proofs.Common.{◌≡◌, drop}
use Rattle.ath_trees.specs.Occurrences.{at_index, is_named}
use Rattle.ath_subst.proofs.occurrences.is_index_used.Given as goal

abbrev pub invariant-loop-w : goal.invariant-loop-w
invariant-loop-w l = is_named (at_index l.v l.index) l.used ≡ is_named (at_index l.v l.index) (drop l.w-index l.used)
