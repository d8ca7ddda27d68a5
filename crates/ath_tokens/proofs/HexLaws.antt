-- A wrong second digit after `\x`.
use Rattle.std.proofs.Common.{◌≡◌, ℕ, ◌<◌, ◌-◌, true, false, List, [], ◌∷◌, length, slice_index, ap, ◌∙◌, arith, subst, sym}
use Rattle.std.specs.Char.{is_ascii_hexdigit}
use Rattle.std.specs.Int.{is_in_range}
use Rattle.ath_tokens.specs.Quoted.{plain, hex, hex_low, wrong, after, quoted}
use Rattle.ath_tokens.proofs.FirstBytes.{if-true, if-false}
use Rattle.ath_tokens.proofs.Strings.{going, going-is}

pub wrong-low : (rest : List ℕ) → 3 < length rest → slice_index rest 0 ≡ 92 → slice_index rest 1 ≡ 120 → is_in_range 48 55 (slice_index rest 2) ≡ true → is_ascii_hexdigit (slice_index rest 3) ≡ false → quoted plain rest ≡ wrong 3 3
wrong-low (a ∷ b ∷ h ∷ l ∷ bs) long first second high low =
    subst (λ x. quoted plain (x ∷ b ∷ h ∷ l ∷ bs) ≡ wrong 3 3) (sym first) (subst (λ y. quoted plain (92 ∷ y ∷ h ∷ l ∷ bs) ≡ wrong 3 3) (sym second)
    (ap (λ q. after 1 [] (after 1 [] q)) (going-is hex h (l ∷ bs) ∙ ap (λ t. going t (λ u. quoted u (l ∷ bs))) (if-true (is_in_range 48 55 h) _ _ high)
    ∙ ap (after 1 []) (going-is (hex_low (h - 48)) l bs ∙ ap (λ t. going t (λ u. quoted u bs)) (if-false (is_ascii_hexdigit l) _ _ low)))))
wrong-low [] long first second high low = absurd (omega arith)
wrong-low (a ∷ []) long first second high low = absurd (omega arith)
wrong-low (a ∷ b ∷ []) long first second high low = absurd (omega arith)
wrong-low (a ∷ b ∷ h ∷ []) long first second high low = absurd (omega arith)
