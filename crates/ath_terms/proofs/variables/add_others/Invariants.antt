use Rattle.std.proofs.Common.{◌≡◌}
use Rattle.ath_terms.proofs.VariableLaws.{others_to}
use Rattle.ath_terms.proofs.variables.add_others.Given as goal

abbrev pub invariant-loop-i : goal.invariant-loop-i
invariant-loop-i l = l.found ≡ others_to l.fn.found l.inner l.v l.i
