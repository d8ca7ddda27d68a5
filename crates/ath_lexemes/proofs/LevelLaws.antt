-- Levels of numerals.
use Rattle.std.proofs.Common.{◌≡◌, ℕ, ◌<◌, ◌^◌, true, List, [], ◌∷◌, length, None, Result, Err, refl, sym, ap, ◌∙◌, arith, rules, cond}
use Rattle.std.specs.Str.{all_ascii_digits}
use Rattle.std.specs.Str.Parse.{ParsesUnsigned, digits_value}
use Rattle.std.proofs.lemmas.Result.{OkIff-at_err}
use Rattle.std.proofs.lemmas.Str.Parse.{IsNumeralModel, numerals_by_value, tells_all_ascii_digits, parse_digits}
use Rattle.ath_lexemes.specs.Level.{level_from, level_of}

own : IsNumeralModel (λ ds. all_ascii_digits ds ≡ true) (digits_value 10)
own = numerals_by_value (λ ds. all_ascii_digits ds ≡ true) tells_all_ascii_digits

pub level_from_large : (n : ℕ) → 999 < n → None ≡ level_from n
level_from_large n h = grind (arith, rules)

large : (n : ℕ) (m : ℕ) → 0 < m → ((0 < m) × (n < 2 ^ 32) → ⊥) → 999 < n
large n m lt past = grind (arith, past)

-- a numeral that is no number of 32 bits is no level
pub level_unread : {E : Type 0} (text : List ℕ) (r : Result ℕ E) (e : E) → all_ascii_digits text ≡ true → ParsesUnsigned 32 10 text r → r ≡ Err e → None ≡ level_of text
level_unread [] r e d h k = refl
level_unread (c ∷ cs) r e d h k =
    let past = OkIff-at_err r _ _ e (parse_digits own 32 (c ∷ cs) r h d) k in
    level_from_large (digits_value 10 (c ∷ cs)) (large (digits_value 10 (c ∷ cs)) (length (c ∷ cs)) (omega arith) past) ∙ sym (ap (λ b. cond b (level_from (digits_value 10 (c ∷ cs))) None) d)
