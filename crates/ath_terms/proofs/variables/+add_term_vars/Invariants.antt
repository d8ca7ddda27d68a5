use Rattle.std.proofs.Common.{◌≡◌}
use Rattle.ath_terms.proofs.VariableLaws.{term_vars_to}
use Rattle.ath_terms.proofs.variables.+add_term_vars.Given as goal

abbrev pub decreases-add_term_vars : goal.decreases-add_term_vars
decreases-add_term_vars l = l.t.0

abbrev pub invariant-loop-i : goal.invariant-loop-i
invariant-loop-i l = l.found ≡ term_vars_to l.store.terms l.fn.found l.parts l.i
