use Rattle.ath_declarations.proofs.Taken.{FreeTo}
use Rattle.ath_declarations.proofs.checks.find_taken.Given as goal

abbrev pub invariant-loop-name : goal.invariant-loop-name
invariant-loop-name l = FreeTo l.sig l.names l.name-index l.seen.keys
