use Rattle.std.proofs.Common.{◌≡◌, drop}
use Rattle.ath_sorts.specs.Instances.{is_rigid}
use Rattle.ath_trees.specs.Instance.{match_sort}
use Rattle.ath_alpha.proofs.WalkLaws.{walk}
use Rattle.ath_alpha.proofs.matching.+match_sort.Given as goal

abbrev pub invariant-loop-i : goal.invariant-loop-i
invariant-loop-i l = walk (match_sort (is_rigid l.rigid)) l.xs l.ys l.fn.found ≡ walk (match_sort (is_rigid l.rigid)) (drop l.i l.xs) (drop l.i l.ys) l.found
