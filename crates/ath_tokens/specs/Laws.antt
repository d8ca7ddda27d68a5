-- What the laws of the cut say.
use Rattle.std.specs.Prelude.{◌≡◌, ℕ, ◌+◌, ◌-◌, ◌<◌, ◌≤◌, false, true, List, length, take, drop, Some, None}
use Rattle.std.specs.Str.{is_utf8}
use Rattle.ath_names.specs.declared.limits.TheConstants.{MOST_NAME_BYTES}
use Rattle.ath_tokens.specs.Spelling.{Lexeme, spells}
use Rattle.ath_tokens.specs.Cut.{gap_len, name_len, found, ended, next_of}

-- blanks and comments from a byte on, all UTF-8, up to another byte
pub record IsGap (text : List ℕ) (from to : ℕ) : Type 0 where
  pub up_to : from + gap_len false (drop from text) ≡ to
  pub utf8 : is_utf8 (take (gap_len false (drop from text)) (drop from text)) ≡ true

-- the bytes from start to end spell the token, no longer ones from there spell any, and only blanks and comments stand before
pub record IsLongest (text : List ℕ) (from : ℕ) (token : Lexeme) (start end : ℕ) : Type 0 where
  pub gap : IsGap text from start
  pub some : start < end
  pub within : end ≤ length text
  pub spelled : spells (take (end - start) (drop start text)) ≡ Some token
  pub longest
      : (n : ℕ) → end - start < n → n ≤ length (drop start text) → spells (take n (drop start text)) ≡ None
  pub short : name_len token ≤ MOST_NAME_BYTES

abbrev pub FoundIsLongest : Type 0
FoundIsLongest =
    (text : List ℕ) (from : ℕ) (token : Lexeme) (start end : ℕ)
    → from ≤ length text → next_of text from ≡ found token start end → IsLongest text from token start end

abbrev pub EndedIsEnd : Type 0
EndedIsEnd =
    (text : List ℕ) (from : ℕ) → from ≤ length text → next_of text from ≡ ended → IsGap text from (length text)
