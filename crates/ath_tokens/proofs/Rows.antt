-- Worked rows: texts and their cuts.
use Rattle.std.proofs.Common.{◌≡◌, [], ◌∷◌, ◌++◌, codes, refl}
use Rattle.std.specs.Prelude.{ℕ, zero, suc, List, length}
use lib.Utf8.{encode}
use Rattle.std.specs.Str.{is_utf8, chars}
use Rattle.std.specs.Str.Lossy.{utf8_valid_len}
use Rattle.ath_tokens.specs.declared.tokens.LexKind.TheVariants.{BadUtf8, BadChar, OpenString}
use Rattle.ath_tokens.specs.Spelling.{word, var, sort_var, str, punct, becomes}
use Rattle.ath_tokens.specs.Cut.{Cut, found, ended, fault, next_of}

-- what comes from a byte on, one after another, as far as the end or the first fault: at most n
abbrev cuts : ℕ → List ℕ → ℕ → List Cut
cuts zero text from = []
cuts (suc n) text from = elim (next_of text from) [
  | found l start end ↦ found l start end ∷ cuts n text end
  | ended ↦ ended ∷ []
  | fault kind at ↦ fault kind at ∷ []
]

-- the whole cut of a text, which has no more tokens than bytes
abbrev cuts_of : List ℕ → List Cut
cuts_of text = cuts (suc (length text)) text 0

declaration : cuts_of (codes "(declare A Boolean)") ≡ found (punct 40) 0 1 ∷ found (word (codes "declare")) 1 8 ∷ found (word (codes "A")) 9 10 ∷ found (word (codes "Boolean")) 11 18 ∷ found (punct 41) 18 19 ∷ ended ∷ []
unfolding is_utf8 utf8_valid_len chars encode
declaration = refl

variables : cuts_of (codes "?x%3:'S := ?x%0") ≡ found (var (codes "x") 3) 0 4 ∷ found (punct 58) 4 5 ∷ found (sort_var (codes "S")) 5 7 ∷ found becomes 8 10 ∷ found (var (codes "x") 0) 11 13 ∷ fault BadChar 13 ∷ []
unfolding is_utf8 utf8_valid_len chars encode
variables = refl

-- a string with an escape, and a comment after it
forged : cuts_of (34 ∷ codes "a" ++ 92 ∷ codes "nTheorem" ++ 34 ∷ codes "#c") ≡ found (str (97 ∷ 10 ∷ codes "Theorem")) 0 12 ∷ ended ∷ []
unfolding is_utf8 utf8_valid_len chars encode
forged = refl

-- a string that the text cuts off in a character, and one that it cuts off in an escape
cut_off : cuts_of (34 ∷ 0xC3 ∷ []) ≡ fault BadUtf8 1 ∷ []
unfolding is_utf8 utf8_valid_len chars encode
cut_off = refl

cut_escape : cuts_of (34 ∷ 92 ∷ codes "x4") ≡ fault OpenString 0 ∷ []
unfolding is_utf8 utf8_valid_len chars encode
cut_escape = refl
