use Rattle.std.proofs.Common.{◌≡◌, []}
use Rattle.ath_terms.proofs.VariableLaws.{term_vars_to}
use Rattle.ath_construction.proofs.application.list_vars.Given as goal

abbrev pub invariant-loop-i : goal.invariant-loop-i
invariant-loop-i l = l.found ≡ term_vars_to l.store.terms [] l.args l.i
