use Rattle.std.proofs.Common.{◌≡◌, ◌++◌, take}
use Rattle.ath_subst.proofs.occurrences.add_copies.Given as goal

abbrev pub invariant-loop-i : goal.invariant-loop-i
invariant-loop-i l = l.found.items ≡ l.fn.found.items ++ take l.i l.vars
