-- The cut of a text into longest tokens, its first fault, and the names with a token's own.
use Rattle.std.specs.Prelude.{ℕ, zero, suc, ◌+◌, ◌-◌, Bool, true, false, not, ◌&&◌, ◌||◌, ◌==◌, nat_lt, List, [], ◌∷◌, length, take, drop, slice_index, Option, Some, None, if◌then◌else◌}
use Rattle.std.specs.List.{count_by, suffix_len}
use Rattle.std.specs.Str.{is_utf8}
use Rattle.std.specs.Str.Lossy.{utf8_valid_len}
use Rattle.ath_syntax.specs.declared.place.Pos.{Pos}
use Rattle.ath_names.specs.declared.limits.TheConstants.{MOST_NAME_BYTES}
use Rattle.ath_names.specs.Names.{interned}
use Rattle.ath_tokens.specs.declared.tokens.LexKind.{LexKind}
use Rattle.ath_tokens.specs.declared.tokens.LexKind.TheVariants.{BadUtf8, BadChar, OpenString, NameTooLong}
use Rattle.ath_tokens.specs.Bytes.{is_blank, is_line_end, begins_character}
use Rattle.ath_tokens.specs.Quoted.{Quoted, plain, closed, wrong, unclosed, quoted}
use Rattle.ath_tokens.specs.Spelling.{Lexeme, word, var, sort_var, str, punct, becomes, spells}

-- the longest front of at most n bytes that spells a token: its length, and the token
abbrev pub longest : ℕ → List ℕ → Option (ℕ × Lexeme)
longest zero bs = None
longest (suc n) bs = elim (spells (take (suc n) bs)) [ Some l ↦ Some (suc n, l) | None ↦ longest n bs ]

-- how many bytes of blanks and comments stand at the front; a comment goes from `#` to before the next LF
abbrev pub gap_len : Bool → List ℕ → ℕ
gap_len in_comment [] = 0
gap_len true (b ∷ bs) = 1 + gap_len (not (is_line_end b)) bs
gap_len false (b ∷ bs) = elim (is_blank b || b == 35) [ true ↦ 1 + gap_len (b == 35) bs | false ↦ 0 ]

-- the fault in a string that is no token, and how far after the opening quote it is. What isn't UTF-8 comes first where it was
-- read by then, and the byte that shows a wrong escape may itself begin no character.
abbrev pub fault_in : List ℕ → Quoted → LexKind × ℕ
fault_in bs (closed n means) = (BadUtf8, 1 + utf8_valid_len (take n bs))
fault_in bs (wrong back n) =
    if is_utf8 (take n bs) then (if begins_character (slice_index bs n) then (BadChar, 1 + n - back) else (BadUtf8, 1 + n))
    else (BadUtf8, 1 + utf8_valid_len (take n bs))
fault_in bs unclosed = if is_utf8 bs then (OpenString, 0) else (BadUtf8, 1 + utf8_valid_len bs)

abbrev pub string_fault : List ℕ → LexKind × ℕ
string_fault bs = fault_in bs (quoted plain bs)

abbrev pub is_at_character : List ℕ → Bool
is_at_character [] = true
is_at_character (b ∷ bs) = begins_character b

-- the fault where no token begins, and how far from there it is. A character has at most four bytes.
abbrev pub fault_of : List ℕ → LexKind × ℕ
fault_of [] = (BadChar, 0)
fault_of (b ∷ bs) =
    if b == 34 then string_fault bs
    else (if (b == 39 || b == 63) && not (is_at_character bs) then (BadUtf8, 1)
    else (if utf8_valid_len (take 4 (b ∷ bs)) == 0 then (BadUtf8, 0)
    else (BadChar, 0)))

abbrev pub name_len : Lexeme → ℕ
name_len (word name) = length name
name_len (var name index) = length name
name_len (sort_var name) = length name
name_len (str bytes) = 0
name_len (punct b) = 0
name_len becomes = 0

-- what comes next in a text: a token, with the bytes from its start to its end; the end; or a fault at a byte
pub data Cut : Type 0 where
  found : Lexeme → ℕ → ℕ → Cut
  ended : Cut
  fault : LexKind → ℕ → Cut

-- what stands at a byte at which neither a blank nor a comment begins
abbrev pub cut_at : ℕ → List ℕ → Cut
cut_at at [] = ended
cut_at at (b ∷ bs) = elim (longest (length (b ∷ bs)) (b ∷ bs)) [
  | Some t ↦ if nat_lt MOST_NAME_BYTES (name_len t.1) then fault NameTooLong at else found t.1 at (at + t.0)
  | None ↦ let f = fault_of (b ∷ bs) in fault f.0 (at + f.1)
]

-- what comes next from a byte on: blanks and comments are passed, in which all must be UTF-8
abbrev pub next_of : List ℕ → ℕ → Cut
next_of text from =
    let rest = drop from text in
    let gap = gap_len false rest in
    if is_utf8 (take gap rest) then cut_at (from + gap) (drop gap rest)
    else fault BadUtf8 (from + utf8_valid_len (take gap rest))

-- the place of a byte: line and column count from 1, the column in bytes
abbrev pub place_of : ℕ → List ℕ → ℕ → Pos
place_of file text at = record {
  file = file;
  line = count_by is_line_end (take at text) + 1;
  col = suffix_len (λ b. not (is_line_end b)) (take at text) + 1;
}

-- the names after a token: its name is among them
abbrev pub names_with : List (List ℕ) → Lexeme → List (List ℕ)
names_with names (word text) = interned names text
names_with names (var text index) = interned names text
names_with names (sort_var text) = interned names text
names_with names (str bytes) = names
names_with names (punct b) = names
names_with names becomes = names
