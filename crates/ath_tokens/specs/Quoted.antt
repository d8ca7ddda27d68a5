-- The text of a string after its opening quote, with its escapes: `\"`, `\\`, `\n`, `\t` and `\xHH`, whose two
-- hexadecimal digits have a value below 80 hexadecimal.
use Rattle.std.specs.Prelude.{ℕ, ◌+◌, ◌-◌, ◌*◌, ◌||◌, ◌==◌, List, [], ◌∷◌, ◌++◌, if◌then◌else◌}
use Rattle.std.specs.Char.{is_ascii_hexdigit}
use Rattle.std.specs.Int.{is_in_range}
use Rattle.ath_tokens.specs.Bytes.{hex_value}

-- how far the text has come: outside escapes, after a backslash, after `\x`, or after `\x` and a digit
pub data Inside : Type 0 where
  plain : Inside
  escape : Inside
  hex : Inside
  hex_low : ℕ → Inside

-- what one more byte is: it goes on and gives the bytes that are meant, or closes the string, or shows that the escape whose
-- backslash stands so many bytes before it is none
pub data Turn : Type 0 where
  goes_on : Inside → List ℕ → Turn
  closes : Turn
  breaks : ℕ → Turn

abbrev pub turn : Inside → ℕ → Turn
turn plain b = if b == 34 then closes else (if b == 92 then goes_on escape [] else goes_on plain (b ∷ []))
turn escape b =
    if b == 34 || b == 92 then goes_on plain (b ∷ [])
    else (if b == 110 then goes_on plain (10 ∷ [])
    else (if b == 116 then goes_on plain (9 ∷ [])
    else (if b == 120 then goes_on hex []
    else breaks 1)))
turn hex b = if is_in_range 48 55 b then goes_on (hex_low (b - 48)) [] else breaks 2
turn (hex_low h) b = if is_ascii_hexdigit b then goes_on plain ((16 * h + hex_value b) ∷ []) else breaks 3

-- how a string goes: its closing quote stands after so many bytes, and these bytes are meant; or a byte, after so many, shows a
-- wrong escape, whose backslash stands so many bytes before it; or the text ends first
pub data Quoted : Type 0 where
  closed : ℕ → List ℕ → Quoted
  wrong : ℕ → ℕ → Quoted
  unclosed : Quoted

-- the same, with n bytes before that mean `means`
abbrev pub after : ℕ → List ℕ → Quoted → Quoted
after n means (closed m more) = closed (n + m) (means ++ more)
after n means (wrong back m) = wrong back (n + m)
after n means unclosed = unclosed

abbrev pub quoted : Inside → List ℕ → Quoted
quoted s [] = unclosed
quoted s (b ∷ bs) = elim (turn s b) [
  | goes_on t means ↦ after 1 means (quoted t bs)
  | closes ↦ closed 0 []
  | breaks back ↦ wrong back 0
]
