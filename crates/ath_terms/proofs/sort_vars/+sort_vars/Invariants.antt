use Rattle.ath_terms.proofs.SortVarLaws.{FixedTo}
use Rattle.ath_terms.proofs.sort_vars.+sort_vars.Given as goal

abbrev pub invariant-loop-i : goal.invariant-loop-i
invariant-loop-i l = FixedTo l.parts l.i l.vars
