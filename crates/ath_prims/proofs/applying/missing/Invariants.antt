use Rattle.std.proofs.Common.{◌≡◌, drop}
use Rattle.ath_terms.specs.Trees.{Trees}
use Rattle.ath_prims.specs.Applied.{missing}
use Rattle.ath_prims.specs.Stands.{arguments_at}
use Rattle.ath_prims.proofs.applying.missing.Given as goal

abbrev pub invariant-loop-i : goal.invariant-loop-i
invariant-loop-i l = (s : Trees) → missing l.premises (arguments_at s l.args) ≡ missing (drop l.i l.premises) (arguments_at s (drop l.i l.args))
