use Rattle.std.proofs.Common.{◌≡◌, ◌+◌, ◌-◌, ◌<◌, ◌≤◌, min, length, drop}
use Rattle.std.specs.List.{prefix_len}
use Rattle.std.specs.Char.{is_ascii_digit}
use Rattle.ath_tokens.specs.declared.limits.TheConstants.{MOST_INDEX_DIGITS}
use Rattle.ath_tokens.proofs.lexeme.index_len.Given as goal

abbrev pub invariant-loop-len : goal.invariant-loop-len
invariant-loop-len l = (l.len ≤ MOST_INDEX_DIGITS) × (0 < l.len → 1 + l.len ≤ length l.rest) × (min MOST_INDEX_DIGITS (prefix_len is_ascii_digit (drop 1 l.rest)) ≡ l.len + min (MOST_INDEX_DIGITS - l.len) (prefix_len is_ascii_digit (drop (1 + l.len) l.rest)))

abbrev pub decreases-loop-len : goal.decreases-loop-len
decreases-loop-len l = MOST_INDEX_DIGITS - l.len
