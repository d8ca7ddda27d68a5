-- The digits of a number, as a token has them.
use Rattle.std.proofs.Common.{◌≡◌, ℕ, ◌+◌, ◌-◌, ◌*◌, ◌%◌, ◌^◌, ◌<◌, Bool, true, ◌&&◌, List, [], ◌∷◌, ◌++◌, ap, ◌∙◌, arith}
use Rattle.std.proofs.lemmas.Bool.Decides.{nat_tests}
use Rattle.std.proofs.lemmas.Fmt.{decimal_by_steps, decimal_by_steps_wide}
use Rattle.std.proofs.lemmas.List.Folds.{list_all-append}
use Rattle.std.proofs.lemmas.List.Sums.{fold-append}
use Rattle.std.specs.Char.{is_ascii_digit}
use Rattle.std.specs.Fmt.{decimal}
use Rattle.std.specs.List.{list_all}
use Rattle.ath_tokens.specs.Bytes.{is_word_char}
use Rattle.ath_tokens.specs.Spelling.{number}

digit-is : (d : ℕ) → d < 10 → is_ascii_digit (48 + d) ≡ true
digit-is d h = grind (arith, nat_tests)

digit-word : (d : ℕ) → d < 10 → is_word_char (48 + d) ≡ true
digit-word d h = grind (arith, nat_tests)

module _ (p : ℕ → Bool) (digit : (d : ℕ) → d < 10 → p (48 + d) ≡ true) where
  one : (d : ℕ) → d < 10 → list_all p ((48 + d) ∷ []) ≡ true
  one d h = ap (λ b. b && true) (digit d h)

  more : (n : ℕ) (ds : List ℕ) → list_all p ds ≡ true → list_all p (ds ++ ((48 + n % 10) ∷ [])) ≡ true
  more n ds h = list_all-append p ds ((48 + n % 10) ∷ []) ∙ (λ i. h i && one (n % 10) (omega arith) i)

  pub all-digits : (n : ℕ) → n < 10 ^ 64 → list_all p (decimal n) ≡ true
  all-digits n small = decimal_by_steps_wide (λ m ds. list_all p ds ≡ true) one (λ m ds l h. more m ds h) n small

pub decimal-digits : (n : ℕ) → n < 10 ^ 64 → list_all is_ascii_digit (decimal n) ≡ true
decimal-digits = all-digits is_ascii_digit digit-is

pub decimal-words : (n : ℕ) → n < 10 ^ 64 → list_all is_word_char (decimal n) ≡ true
decimal-words = all-digits is_word_char digit-word

pub decimal-number : (n : ℕ) → n < 2 ^ 64 → number (decimal n) ≡ n
decimal-number n small = decimal_by_steps (λ m ds. number ds ≡ m) (λ m l. omega arith)
    (λ m ds l h. fold-append (λ k d. 10 * k + (d - 48)) 0 ds ((48 + m % 10) ∷ []) ∙ omega (arith, h)) n small
