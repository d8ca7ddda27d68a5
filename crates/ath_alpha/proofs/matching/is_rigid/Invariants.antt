use Rattle.std.proofs.Common.{◌≡◌, drop}
use Rattle.ath_sorts.specs.Instances.{is_rigid}
use Rattle.ath_alpha.proofs.matching.is_rigid.Given as goal

abbrev pub invariant-loop-w : goal.invariant-loop-w
invariant-loop-w l = is_rigid l.rigid l.v ≡ is_rigid (drop l.w-index l.rigid) l.v
