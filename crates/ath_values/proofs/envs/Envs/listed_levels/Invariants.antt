use Rattle.std.proofs.Common.{◌≡◌, ◌≤◌, take}
use Rattle.ath_values.specs.Nodes.{listed_levels}
use Rattle.ath_values.proofs.envs.Envs.listed_levels.Given as goal

abbrev pub invariant-loop-i : goal.invariant-loop-i
invariant-loop-i l = record {
  most : l.most ≡ listed_levels l.self (take l.i l.items);
  few : l.most ≤ 2000;
}
