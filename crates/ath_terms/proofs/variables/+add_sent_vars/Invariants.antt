use Rattle.std.proofs.Common.{◌≡◌}
use Rattle.ath_terms.proofs.VariableLaws.{sent_vars_to}
use Rattle.ath_terms.proofs.variables.+add_sent_vars.Given as goal

abbrev pub decreases-add_sent_vars : goal.decreases-add_sent_vars
decreases-add_sent_vars l = l.p.0

abbrev pub invariant-loop-i : goal.invariant-loop-i
invariant-loop-i l = l.found ≡ sent_vars_to l.store.sents l.fn.found l.parts l.i
