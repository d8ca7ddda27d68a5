-- Classes of bytes.
use Rattle.std.specs.Prelude.{ℕ, ◌-◌, Bool, false, not, ◌&&◌, ◌||◌, ◌==◌, nat_lt, List, [], ◌∷◌, codes, if◌then◌else◌}
use Rattle.std.specs.Char.{is_ascii_alphanumeric}
use Rattle.std.specs.Int.{is_in_range}
use Rattle.std.specs.List.{list_any}

-- space, tab, CR and LF
abbrev pub is_blank : ℕ → Bool
is_blank b = list_any (λ c. c == b) (32 ∷ 9 ∷ 13 ∷ 10 ∷ [])

abbrev pub is_line_end : ℕ → Bool
is_line_end b = b == 10

abbrev pub is_word_char : ℕ → Bool
is_word_char b = is_ascii_alphanumeric b || list_any (λ c. c == b) (codes "+-*/<>=&~^@$_'?")

-- a part is a run of word characters that begins with neither `'` nor `?`
abbrev pub begins_part : ℕ → Bool
begins_part b = is_word_char b && not (b == 39 || b == 63)

abbrev pub is_at_part : List ℕ → Bool
is_at_part [] = false
is_at_part (b ∷ bs) = begins_part b

abbrev pub is_punct : ℕ → Bool
is_punct b = list_any (λ c. c == b) (codes "()[]{}|,;!:.")

-- the bytes with which some character's UTF-8 begins
abbrev pub begins_character : ℕ → Bool
begins_character b = nat_lt b 0x80 || is_in_range 0xC2 0xF4 b

-- the value of a hexadecimal digit
abbrev pub hex_value : ℕ → ℕ
hex_value b = if nat_lt b 58 then b - 48 else (if nat_lt b 71 then b - 55 else b - 87)
