use Rattle.std.proofs.Common.{◌≡◌, ◌+◌, drop}
use Rattle.ath_prims.specs.Applied.{fitted, no_parts}
use Rattle.ath_prims.specs.Stands.{AreIn, arguments_at, parts_at}
use Rattle.ath_prims.proofs.applying.fit_all.Given as goal

abbrev pub invariant-loop-i : goal.invariant-loop-i
invariant-loop-i l = record {
  inside : AreIn l.store l.bindings;
  same : fitted 1 l.premises (arguments_at l.store l.args) no_parts ≡ fitted (l.i + 1) (drop l.i l.premises) (arguments_at l.store (drop l.i l.args)) (parts_at l.store l.bindings);
}
