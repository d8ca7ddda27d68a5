use Rattle.std.proofs.Common.{take}
use Rattle.ath_sorts.specs.Matching.{Extends}
use Rattle.ath_sorts.proofs.matching.+match_sort.Given as goal

abbrev pub invariant-loop-i : goal.invariant-loop-i
invariant-loop-i l = Extends l.rigid l.fn.found l.found (take l.i l.args) (take l.i l.others)
