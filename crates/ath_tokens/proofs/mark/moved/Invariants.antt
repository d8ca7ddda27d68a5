use Rattle.std.proofs.Common.{◌-◌, ◌≤◌}
use Rattle.ath_tokens.specs.Mark.{IsMark}
use Rattle.ath_tokens.proofs.mark.moved.Given as goal

abbrev pub invariant-loop-mark : goal.invariant-loop-mark
invariant-loop-mark l = IsMark l.text l.mark × (l.mark.at ≤ l.to)

abbrev pub decreases-loop-mark : goal.decreases-loop-mark
decreases-loop-mark l = l.to - l.mark.at
