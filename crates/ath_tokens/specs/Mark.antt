-- Marks in a text.
use Rattle.std.specs.Prelude.{◌≡◌, ℕ, ◌+◌, ◌≤◌, List, length, take, not}
use Rattle.std.specs.List.{count_by, suffix_len}
use Rattle.ath_tokens.specs.declared.mark.Mark.{Mark}
use Rattle.ath_tokens.specs.Bytes.{is_line_end}

-- the mark counts the line ends before its byte, and knows where the byte's line begins
pub record IsMark (text : List ℕ) (mark : Mark) : Type 0 where
  pub within : mark.at ≤ length text
  pub lines : mark.lines ≡ count_by is_line_end (take mark.at text)
  pub line : mark.line_start + suffix_len (λ b. not (is_line_end b)) (take mark.at text) ≡ mark.at
