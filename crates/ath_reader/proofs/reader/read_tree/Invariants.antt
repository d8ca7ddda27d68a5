use Rattle.std.proofs.Common.{◌-◌, length}
use Rattle.ath_reader.proofs.Turned.{Carried}
use Rattle.ath_reader.proofs.reader.read_tree.Given as goal

abbrev pub invariant-loop-state : goal.invariant-loop-state
invariant-loop-state l = Carried l.fn.tokens l.fn.names l.tokens l.names l.state l.begun

abbrev pub decreases-loop-state : goal.decreases-loop-state
decreases-loop-state l = length l.tokens.text - l.tokens.at
