use Rattle.std.proofs.Common.{take, []}
use Rattle.ath_sorts.specs.Matching.{Extends}
use Rattle.ath_sorts.proofs.matching.instance.Given as goal

abbrev pub invariant-loop-i : goal.invariant-loop-i
invariant-loop-i l = Extends l.rigid.items [] l.found (take l.i l.general) (take l.i l.special)
