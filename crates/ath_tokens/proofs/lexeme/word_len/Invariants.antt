use Rattle.std.proofs.Common.{◌≡◌, ◌+◌, ◌-◌, ◌≤◌, length, drop}
use Rattle.ath_tokens.specs.Scan.{word_more}
use Rattle.ath_tokens.proofs.lexeme.word_len.Given as goal

abbrev pub invariant-loop-at : goal.invariant-loop-at
invariant-loop-at l = (l.at ≤ length l.rest) × (1 + word_more (drop 1 l.rest) ≡ l.at + word_more (drop l.at l.rest))

abbrev pub decreases-loop-at : goal.decreases-loop-at
decreases-loop-at l = length l.rest - l.at
