-- The order of the variables that were read.
use Rattle.std.proofs.Common.{◌≡◌, ℕ, Bool, true, false, cond, nat_lt, ◌||◌, List, [], ◌∷◌, refl, sym, ◌∙◌, ap, arith, inl, inr}
use Rattle.std.proofs.lemmas.Grind.{common_steps}
use Rattle.ath_sorts.specs.declared.sorts.SVar.{SVar}
use Rattle.ath_sorts.specs.declared.sorts.SVar.TheVariants.{Written, Made}
use Rattle.ath_sorts.specs.Sorts.{same_svar}
use Rattle.ath_unifiers.specs.Order.{comes_first, precedes}
use Rattle.ath_sorts.proofs.Bools.{true-not-false, num_cases}
use Rattle.ath_sorts.proofs.SortLaws.{same_svar-true}
use Rattle.ath_unifiers.proofs.UnifierLaws.{precedes-apart}
use Rattle.ath_unifiers.proofs.Reading.{is_in}
use Rattle.ath_unifiers.proofs.Solving.{IsOrder}

then_step : (x y z p q r : Bool) → (p ≡ true → q ≡ true → r ≡ true) → cond y false (cond x true p) ≡ true → cond z false (cond y true q) ≡ true → cond z false (cond x true r) ≡ true
then_step x true z p q r n h k = absurd (true-not-false (sym h))
then_step x false true p q r n h k = absurd (true-not-false (sym k))
then_step true false false p q r n h k = refl
then_step false false false p q r n h k = n h k

comes_first-then : (vs : List SVar) (a b c : SVar) → comes_first vs a b ≡ true → comes_first vs b c ≡ true → comes_first vs a c ≡ true
comes_first-then [] a b c h k = h
comes_first-then (v ∷ vs) a b c h k = then_step (same_svar v a) (same_svar v b) (same_svar v c) (comes_first vs a b) (comes_first vs b c) (comes_first vs a c) (comes_first-then vs a b c) h k

precedes-then : (vs : List SVar) (a b c : SVar) → precedes vs a b ≡ true → precedes vs b c ≡ true → precedes vs a c ≡ true
precedes-then vs (Written a) (Written b) (Written c) p q = comes_first-then vs (Written a) (Written b) (Written c) p q
precedes-then vs (Written a) (Written b) (Made n) p q = refl
precedes-then vs (Written a) (Made m) (Written c) p q = absurd (true-not-false (sym q))
precedes-then vs (Written a) (Made m) (Made n) p q = refl
precedes-then vs (Made l) (Written b) c p q = absurd (true-not-false (sym p))
precedes-then vs (Made l) (Made m) (Written c) p q = absurd (true-not-false (sym q))
precedes-then vs (Made l) (Made m) (Made n) p q = less-then l m n p q
  where
    less-then : (l m n : ℕ) → nat_lt l m ≡ true → nat_lt m n ≡ true → nat_lt l n ≡ true
    less-then l m n p q = grind (arith, common_steps)

total_step : (x y p q r s : Bool) → (x ≡ true → y ≡ true → ⊥) → (r ≡ true → s ≡ true → p ≡ false → q ≡ true) → (x || r) ≡ true → (y || s) ≡ true → cond y false (cond x true p) ≡ false → cond x false (cond y true q) ≡ true
total_step true true p q r s d n h k e = absurd (d refl refl)
total_step true false p q r s d n h k e = absurd (true-not-false e)
total_step false true p q r s d n h k e = refl
total_step false false p q r s d n h k e = n h k e

comes_first-total : (vs : List SVar) (a b : SVar) → (a ≡ b → ⊥) → is_in vs a ≡ true → is_in vs b ≡ true → comes_first vs a b ≡ false → comes_first vs b a ≡ true
comes_first-total [] a b d h k e = absurd (true-not-false (sym h))
comes_first-total (v ∷ vs) a b d h k e =
    total_step (same_svar v a) (same_svar v b) (comes_first vs a b) (comes_first vs b a) (is_in vs a) (is_in vs b)
    (λ p q. d (sym (same_svar-true v a p) ∙ same_svar-true v b q)) (comes_first-total vs a b d) h k e

precedes-total : (vs : List SVar) (a b : SVar) → is_in vs a ≡ true → is_in vs b ≡ true → (a ≡ b → ⊥) → precedes vs a b ≡ false → precedes vs b a ≡ true
precedes-total vs (Written a) (Written b) h k d e = comes_first-total vs (Written a) (Written b) d h k e
precedes-total vs (Written a) (Made n) h k d e = absurd (true-not-false e)
precedes-total vs (Made m) (Written b) h k d e = refl
precedes-total vs (Made m) (Made n) h k d e = elim (num_cases m n) [ inl p ↦ absurd (d (ap Made p)) | inr p ↦ other m n p e ]
  where
    other : (m n : ℕ) → (m ≡ n → ⊥) → nat_lt m n ≡ false → nat_lt n m ≡ true
    other m n d e = grind (arith, common_steps)

pub is_order : (read : List SVar) → IsOrder (precedes read) read
is_order read = record {
  then = precedes-then read;
  once = precedes-apart read;
  total = precedes-total read;
}
