use Rattle.std.proofs.Common.{◌≡◌, take}
use Rattle.ath_construction.specs.Construction.{made_sorts}
use Rattle.ath_construction.proofs.application.made_sorts.Given as goal

abbrev pub invariant-loop-i : goal.invariant-loop-i
invariant-loop-i l = l.sorts.items ≡ made_sorts l.first (take l.i l.params)
