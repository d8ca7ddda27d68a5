use Rattle.std.proofs.Common.{◌≡◌, ◌+◌, ◌-◌, ◌≤◌, false, length, drop}
use Rattle.ath_tokens.specs.Cut.{gap_len}
use Rattle.ath_tokens.proofs.lexeme.gap_len.Given as goal

abbrev pub invariant-loop-at : goal.invariant-loop-at
invariant-loop-at l = (l.at ≤ length l.rest) × (gap_len false l.rest ≡ l.at + gap_len l.in_comment (drop l.at l.rest))

abbrev pub decreases-loop-at : goal.decreases-loop-at
decreases-loop-at l = length l.rest - l.at
