use Rattle.std.proofs.Common.{◌≡◌, []}
use Rattle.ath_terms.proofs.VariableLaws.{sent_vars_to}
use Rattle.ath_construction.proofs.connectives.list_vars.Given as goal

abbrev pub invariant-loop-i : goal.invariant-loop-i
invariant-loop-i l = l.found ≡ sent_vars_to l.store.sents [] l.parts l.i
