-- Eighteen digits fit.
use Rattle.std.proofs.Common.{◌≡◌, ℕ, ◌*◌, ◌+◌, ◌^◌, ◌<◌, ◌≤◌, arith, List, length, get_or, refl, Bool, true, false, sym, ◌∙◌, true≢false, lit≤}
use Rattle.std.proofs.Math.Nat.{pow-le-pow_right}
use Rattle.std.proofs.lemmas.Bool.Decides.{nat_tests}
use Rattle.std.proofs.lemmas.List.Folds.{list_all_at}
use Rattle.std.specs.Char.{is_ascii_digit}
use Rattle.std.specs.List.{list_all}
use Rattle.ath_tokens.proofs.lexeme.number.Goals as goal

small : (value i : ℕ) → value < 10 ^ i → i < 18 → 10 * value + 9 < 1000000000000000000
small value i h short =
    let far : i ≤ 17 = omega arith in
    let some : 0 < 10 = omega arith in
    let top : 10 ^ i ≤ 10 ^ 17 = pow-le-pow_right some far in
    let here : 10 ^ 17 ≤ 100000000000000000 = lit≤ tt in
    omega arith

digit_at : (x : ℕ) → is_ascii_digit x ≡ true → x ≤ 57
digit_at x e = grind (arith, nat_tests)

digit : (ds : List ℕ) (i : ℕ) → list_all is_ascii_digit ds ≡ true → i < length ds → get_or ds i 0 ≤ 57
digit ds i all h = by (is_ascii_digit (get_or ds i 0)) refl
  where
    by : (t : Bool) → is_ascii_digit (get_or ds i 0) ≡ t → get_or ds i 0 ≤ 57
    by true e = digit_at (get_or ds i 0) e
    by false e = absurd (true≢false (sym all ∙ list_all_at is_ascii_digit ds i 0 h e))

pub overflow_mul-value : goal.overflow_mul-value
overflow_mul-value c = omega (arith, small c.loop-digit.value c.loop-digit.digit-index c.loop-digit.invariant.1 (omega arith))

pub overflow_add-value : goal.overflow_add-value
overflow_add-value c =
    omega (arith, small c.loop-digit.value c.loop-digit.digit-index c.loop-digit.invariant.1 (omega arith), digit c.args.digits.now c.loop-digit.digit-index c.requires.digits c.loop-digit-test.true)
