-- The table of tokens: which complete text spells which token.
use Rattle.std.specs.Prelude.{ℕ, ◌+◌, ◌-◌, ◌*◌, Bool, true, false, not, ◌&&◌, ◌||◌, ◌==◌, nat_lt, List, [], ◌∷◌, length, take, drop, fold, Option, Some, None, if◌then◌else◌}
use Rattle.std.specs.Char.{is_ascii_digit}
use Rattle.std.specs.List.{list_all, prefix_len}
use Rattle.std.specs.Str.{is_utf8}
use Rattle.ath_tokens.specs.declared.limits.TheConstants.{MOST_INDEX_DIGITS}
use Rattle.ath_tokens.specs.Bytes.{is_word_char, begins_part, is_at_part, is_punct}
use Rattle.ath_tokens.specs.Quoted.{Quoted, plain, closed, wrong, unclosed, quoted}

-- a token, with names as texts
pub data Lexeme : Type 0 where
  word : List ℕ → Lexeme
  var : List ℕ → ℕ → Lexeme
  sort_var : List ℕ → Lexeme
  str : List ℕ → Lexeme
  punct : ℕ → Lexeme
  becomes : Lexeme

abbrev pub is_part : List ℕ → Bool
is_part bs = is_at_part bs && list_all is_word_char bs

-- after a part, a word goes on with word characters, and with a dot where a part stands after it
abbrev pub goes_on_word : List ℕ → Bool
goes_on_word [] = true
goes_on_word (b ∷ bs) = (is_word_char b || (b == 46 && is_at_part bs)) && goes_on_word bs

-- an index: digits, the first not 0, as many as may be
abbrev pub is_index : List ℕ → Bool
is_index [] = false
is_index (d ∷ ds) = not (d == 48) && list_all is_ascii_digit (d ∷ ds) && nat_lt (length ds) MOST_INDEX_DIGITS

abbrev pub number : List ℕ → ℕ
number ds = fold (λ n d. 10 * n + (d - 48)) 0 ds

-- a variable's name, and nothing or `%` and an index after it
abbrev pub indexed : List ℕ → List ℕ → Option Lexeme
indexed name [] = Some (var name 0)
indexed name (c ∷ ds) = if c == 37 && is_index ds then Some (var name (number ds)) else None

abbrev pub spells_var : List ℕ → Option Lexeme
spells_var bs = let n = prefix_len is_word_char bs in if is_at_part bs then indexed (take n bs) (drop n bs) else None

-- the closing quote ends the text, and what stands between the quotes is UTF-8
abbrev pub str_of : List ℕ → Quoted → Option Lexeme
str_of bs (closed n means) = if length bs == n + 1 && is_utf8 (take n bs) then Some (str means) else None
str_of bs (wrong back n) = None
str_of bs unclosed = None

abbrev pub spells_str : List ℕ → Option Lexeme
spells_str bs = str_of bs (quoted plain bs)

abbrev pub spells_punct : ℕ → List ℕ → Option Lexeme
spells_punct b [] = Some (punct b)
spells_punct b (c ∷ []) = if b == 58 && c == 61 then Some becomes else None
spells_punct b (c ∷ d ∷ bs) = None

-- the token that the whole of a text spells
abbrev pub spells : List ℕ → Option Lexeme
spells [] = None
spells (b ∷ bs) =
    if begins_part b then (if goes_on_word bs then Some (word (b ∷ bs)) else None)
    else (if b == 63 then spells_var bs
    else (if b == 39 then (if is_part bs then Some (sort_var bs) else None)
    else (if b == 34 then spells_str bs
    else (if is_punct b then spells_punct b bs
    else None))))
