use Rattle.std.proofs.Common.{◌≡◌, ◌<◌, ◌^◌, drop, map}
use Rattle.ath_terms.specs.Digest.{digest, mixed}
use Rattle.ath_terms.proofs.digest.+digest_of.Given as goal

abbrev pub invariant-loop-arg : goal.invariant-loop-arg
invariant-loop-arg l = (mixed l.mixed (map digest (drop l.arg-index l.arg-items)) ≡ digest l.sort) × (l.mixed < 2 ^ 34)
