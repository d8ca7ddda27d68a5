use Rattle.std.proofs.Common.{◌≡◌, drop}
use Rattle.ath_terms.specs.Fresh.{is_taken}
use Rattle.ath_terms.proofs.fresh.is_taken.Given as goal

abbrev pub invariant-loop-e : goal.invariant-loop-e
invariant-loop-e l = is_taken l.taken l.name l.index ≡ is_taken (drop l.e-index l.taken) l.name l.index
