use Rattle.std.proofs.Common.{◌≡◌, ◌≤◌, ◌*◌, take}
use Rattle.ath_values.specs.Nodes.{listed_nodes}
use Rattle.ath_values.proofs.envs.Envs.listed_nodes.Given as goal

abbrev pub invariant-loop-i : goal.invariant-loop-i
invariant-loop-i l = record {
  sum : l.total ≡ listed_nodes l.self (take l.i l.items);
  few : l.total ≤ l.i * 100000;
}
