use Rattle.std.proofs.Common.{◌≡◌}
use Rattle.ath_construction.proofs.ArgumentLaws.{places_to}
use Rattle.ath_construction.proofs.application.at_sorts.Given as goal

abbrev pub invariant-loop-i : goal.invariant-loop-i
invariant-loop-i l = l.subst ≡ places_to l.params l.sorts l.i
