use Rattle.std.proofs.Common.{◌<◌, ◌≤◌, ◌-◌, length, take}
use Rattle.ath_unifiers.specs.Unifiers.{HasUnifier}
use Rattle.ath_unifiers.proofs.unification.clash.Given as goal

abbrev pub invariant-loop-high : goal.invariant-loop-high
invariant-loop-high l = record {
  order : l.low < l.high;
  within : l.high ≤ length l.pairs;
  unified : HasUnifier (take l.low l.pairs);
  not : HasUnifier (take l.high l.pairs) → ⊥;
}

abbrev pub decreases-loop-high : goal.decreases-loop-high
decreases-loop-high l = l.high - l.low
