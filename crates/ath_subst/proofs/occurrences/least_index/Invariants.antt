use Rattle.ath_subst.proofs.OccurrenceLaws.{IsUsedTo}
use Rattle.ath_subst.proofs.occurrences.least_index.Given as goal

abbrev pub invariant-loop-i : goal.invariant-loop-i
invariant-loop-i l = IsUsedTo l.v l.used l.i
