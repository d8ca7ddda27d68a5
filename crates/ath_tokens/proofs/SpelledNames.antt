-- The names of tokens are made of word characters and dots.
use Rattle.std.proofs.Common.{◌≡◌, ℕ, suc, ◌+◌, ◌≤◌, Bool, true, false, cond, ◌&&◌, ◌||◌, ◌==◌, List, [], ◌∷◌, length, take, drop, Option, Some, None, refl, sym, ap, ◌∙◌, subst, arith, ◌⊎◌, inl, inr, ⊎_elim, true≢false}
use Rattle.std.proofs.lemmas.Bool.{cases_lt, and_parts}
use Rattle.std.proofs.lemmas.Bool.Decides.{nat_tests}
use Rattle.std.proofs.lemmas.Option.{same_Some}
use Rattle.std.specs.List.{list_all, prefix_len}
use Rattle.std.proofs.lemmas.Str.Ascii.{IsAscii-nil, IsAscii-cons}
use Rattle.std.specs.Str.{IsAscii, is_utf8}
use Rattle.ath_tokens.specs.Bytes.{is_word_char, begins_part, is_at_part, is_punct}
use Rattle.ath_tokens.specs.Quoted.{Quoted, plain, closed, wrong, unclosed, quoted}
use Rattle.ath_tokens.specs.Spelling.{Lexeme, word, var, sort_var, str, punct, becomes, is_part, is_index, number, goes_on_word, indexed, spells_var, str_of, spells_str, spells_punct, spells}

-- the token has no name, or this holds of it
abbrev pub Named : (List ℕ → Type 0) → Lexeme → Type 0
Named P (word text) = P text
Named P (var text index) = P text
Named P (sort_var text) = P text
Named P (str bytes) = Unit {0}
Named P (punct b) = Unit {0}
Named P becomes = Unit {0}

tested : (t : Bool) (x y : Option Lexeme) (l : Lexeme) → cond t x y ≡ Some l → ((t ≡ true) × (x ≡ Some l)) ⊎ ((t ≡ false) × (y ≡ Some l))
tested true x y l e = inl (refl, e)
tested false x y l e = inr (refl, e)

nothing : {P : Type 0} (l : Lexeme) → None ≡ Some l → P
nothing l e = absurd cc

in_names : (x y t : Bool) → (x || (y && t)) ≡ true → (x || y) ≡ true
in_names true y t e = refl
in_names false true t e = refl
in_names false false t e = absurd (true≢false (sym e))

-- what holds of no bytes, and of more with each word character and dot
module _ (P : List ℕ → Type 0) (none : P []) (more : (b : ℕ) (bs : List ℕ) → (is_word_char b || b == 46) ≡ true → P bs → P (b ∷ bs)) where
  part_byte : (b : ℕ) → is_word_char b ≡ true → (is_word_char b || b == 46) ≡ true
  part_byte b e = ap (λ t. t || b == 46) e

  pub word_holds : (bs : List ℕ) → goes_on_word bs ≡ true → P bs
  word_holds [] e = none
  word_holds (b ∷ bs) e =
      let p = and_parts (is_word_char b || (b == 46 && is_at_part bs)) (goes_on_word bs) e in
      more b bs (in_names (is_word_char b) (b == 46) (is_at_part bs) p.0) (word_holds bs p.1)

  pub part_holds : (bs : List ℕ) → list_all is_word_char bs ≡ true → P bs
  part_holds [] e = none
  part_holds (b ∷ bs) e = let p = and_parts (is_word_char b) (list_all is_word_char bs) e in more b bs (part_byte b p.0) (part_holds bs p.1)

  front_holds : (bs : List ℕ) → P (take (prefix_len is_word_char bs) bs)
  front_holds [] = none
  front_holds (b ∷ bs) = by (is_word_char b) refl (front_holds bs)
    where
      n : ℕ
      n = prefix_len is_word_char bs

      by : (t : Bool) → is_word_char b ≡ t → P (take n bs) → P (take (cond t (1 + n) 0) (b ∷ bs))
      by true e rest = let one : 1 + n ≡ suc n = omega arith in subst (λ k. P (take k (b ∷ bs))) (sym one) (more b (take n bs) (part_byte b e) rest)
      by false e rest = none

  module _ (l : Lexeme) where
    named : (m : Lexeme) → Named P m → Some m ≡ Some l → Named P l
    named m h e = subst (Named P) (same_Some m l e) h

    index_named : (name ds : List ℕ) → P name → indexed name ds ≡ Some l → Named P l
    index_named name [] h e = named (var name 0) h e
    index_named name (c ∷ ds) h e = ⊎_elim (λ yes. named (var name (number ds)) h yes.1) (λ no. nothing l no.1) (tested (c == 37 && is_index ds) (Some (var name (number ds))) None l e)

    var_named : (bs : List ℕ) → spells_var bs ≡ Some l → Named P l
    var_named bs e = ⊎_elim
        (λ yes. index_named (take n bs) (drop n bs) (front_holds bs) yes.1)
        (λ no. nothing l no.1)
        (tested (is_at_part bs) (indexed (take n bs) (drop n bs)) None l e)
      where
        n : ℕ
        n = prefix_len is_word_char bs

    str_named : (bs : List ℕ) (q : Quoted) → str_of bs q ≡ Some l → Named P l
    str_named bs (closed n means) e = ⊎_elim (λ yes. named (str means) tt yes.1) (λ no. nothing l no.1) (tested (length bs == n + 1 && is_utf8 (take n bs)) (Some (str means)) None l e)
    str_named bs (wrong back n) e = nothing l e
    str_named bs unclosed e = nothing l e

    punct_named : (b : ℕ) (bs : List ℕ) → spells_punct b bs ≡ Some l → Named P l
    punct_named b [] e = named (punct b) tt e
    punct_named b (c ∷ []) e = ⊎_elim (λ yes. named becomes tt yes.1) (λ no. nothing l no.1) (tested (b == 58 && c == 61) (Some becomes) None l e)
    punct_named b (c ∷ d ∷ bs) e = nothing l e

    word_named : (b : ℕ) (bs : List ℕ) → begins_part b ≡ true → cond (goes_on_word bs) (Some (word (b ∷ bs))) None ≡ Some l → Named P l
    word_named b bs part e = ⊎_elim
        (λ yes. named (word (b ∷ bs)) (more b bs (part_byte b (and_parts (is_word_char b) _ part).0) (word_holds bs yes.0)) yes.1)
        (λ no. nothing l no.1)
        (tested (goes_on_word bs) (Some (word (b ∷ bs))) None l e)

    sort_named : (bs : List ℕ) → cond (is_part bs) (Some (sort_var bs)) None ≡ Some l → Named P l
    sort_named bs e = ⊎_elim
        (λ yes. named (sort_var bs) (part_holds bs (and_parts (is_at_part bs) (list_all is_word_char bs) yes.0).1) yes.1)
        (λ no. nothing l no.1)
        (tested (is_part bs) (Some (sort_var bs)) None l e)

    pub spelled : (bs : List ℕ) → spells bs ≡ Some l → Named P l
    spelled [] e = nothing l e
    spelled (b ∷ bs) e = ⊎_elim (λ yes. word_named b bs yes.0 yes.1) (λ no. second no.1) (tested (begins_part b) _ _ l e)
      where
        fifth : cond (is_punct b) (spells_punct b bs) None ≡ Some l → Named P l
        fifth f = ⊎_elim (λ yes. punct_named b bs yes.1) (λ no. nothing l no.1) (tested (is_punct b) _ _ l f)

        fourth : cond (b == 34) (spells_str bs) (cond (is_punct b) (spells_punct b bs) None) ≡ Some l → Named P l
        fourth f = ⊎_elim (λ yes. str_named bs (quoted plain bs) yes.1) (λ no. fifth no.1) (tested (b == 34) _ _ l f)

        third : cond (b == 39) (cond (is_part bs) (Some (sort_var bs)) None) (cond (b == 34) (spells_str bs) (cond (is_punct b) (spells_punct b bs) None)) ≡ Some l → Named P l
        third f = ⊎_elim (λ yes. sort_named bs yes.1) (λ no. fourth no.1) (tested (b == 39) _ _ l f)

        second : cond (b == 63) (spells_var bs) (cond (b == 39) (cond (is_part bs) (Some (sort_var bs)) None) (cond (b == 34) (spells_str bs) (cond (is_punct b) (spells_punct b bs) None))) ≡ Some l → Named P l
        second f = ⊎_elim (λ yes. var_named bs yes.1) (λ no. third no.1) (tested (b == 63) _ _ l f)

-- names are ASCII
not_in_names : (b : ℕ) → 128 ≤ b → (is_word_char b || b == 46) ≡ false
not_in_names b h = grind (arith, nat_tests)

pub ascii-more : (b : ℕ) (bs : List ℕ) → (is_word_char b || b == 46) ≡ true → IsAscii bs → IsAscii (b ∷ bs)
ascii-more b bs e h = IsAscii-cons b bs (⊎_elim (λ below. below) (λ above. absurd (true≢false (sym e ∙ not_in_names b above))) (cases_lt b 128)) h

pub ascii_named : (l : Lexeme) (bs : List ℕ) → spells bs ≡ Some l → Named IsAscii l
ascii_named = spelled IsAscii IsAscii-nil ascii-more
