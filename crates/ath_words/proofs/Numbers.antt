-- Numbers of `--fuel`.
use Rattle.std.proofs.Common.{◌≡◌, ◌∙◌, ◌∷◌, ◌&&◌, ℕ, true, false, cond, List, [], Some, None, Result, Err, sym, ap, refl, arith}
use Rattle.std.specs.Prelude.{nat_le}
use Rattle.std.specs.Str.{all_ascii_digits}
use Rattle.std.specs.Str.Parse.{ParsesUnsigned, digits_value}
use Rattle.std.proofs.Math.Bool.{and-false}
use Rattle.std.proofs.lemmas.Bool.{false_from_ne_true, leb-true}
use Rattle.std.proofs.lemmas.Result.{OkIff-at_err}
use Rattle.std.proofs.lemmas.Str.Parse.{IsNumeralModel, numerals_by_value, parse_digits, tells_all_ascii_digits}
use Rattle.ath_words.specs.Words.{fuel_of, is_number}
use Rattle.ath_words.specs.declared.limits.TheConstants.{MOST_FUEL}

own : IsNumeralModel (λ ds. all_ascii_digits ds ≡ true) (digits_value 10)
own = numerals_by_value (λ ds. all_ascii_digits ds ≡ true) tells_all_ascii_digits

-- digits that write no number of 64 bits write no fuel
pub fuel_unread : {E : Type 0} (text : List ℕ) (r : Result ℕ E) (e : E) → all_ascii_digits text ≡ true → ParsesUnsigned 64 10 text r → r ≡ Err e → None ≡ fuel_of (Some text)
fuel_unread [] r e digits h is = refl
fuel_unread (c ∷ cs) r e digits h is =
    let n = digits_value 10 (c ∷ cs) in
    let past = OkIff-at_err r _ _ e (parse_digits own 64 (c ∷ cs) r h digits) is in
    let large : nat_le n MOST_FUEL ≡ false = false_from_ne_true (nat_le n MOST_FUEL) (λ le. past (omega arith, omega (arith, leb-true n MOST_FUEL le))) in
    sym (ap (λ b. cond (is_number (c ∷ cs) && b) (Some n) None) large ∙ ap (λ b. cond b (Some n) None) (and-false (is_number (c ∷ cs))))
