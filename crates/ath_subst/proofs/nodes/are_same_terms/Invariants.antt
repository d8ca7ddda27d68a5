use Rattle.std.proofs.Common.{◌≡◌, take}
use Rattle.ath_subst.proofs.nodes.are_same_terms.Given as goal

abbrev pub invariant-loop-i : goal.invariant-loop-i
invariant-loop-i l = take l.i l.some ≡ take l.i l.others
