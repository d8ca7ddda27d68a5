use Rattle.std.proofs.Common.{◌≡◌}
use Rattle.ath_subst.proofs.OccurrenceLaws.{every_to}
use Rattle.ath_subst.proofs.occurrences.+add_every_var.Given as goal

abbrev pub decreases-add_every_var : goal.decreases-add_every_var
decreases-add_every_var l = l.p.0

abbrev pub invariant-loop-i : goal.invariant-loop-i
invariant-loop-i l = l.found.items ≡ every_to l.store.sents l.fn.found.items l.parts l.i
