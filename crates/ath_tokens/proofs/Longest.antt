-- The longest front that spells a token, found by its first byte.
use Rattle.std.proofs.Common.{◌≡◌, ℕ, zero, suc, ◌<◌, ◌≤◌, List, ◌∷◌, length, take, Option, Some, None, refl, sym, ap, subst, ◌∙◌, ⊎_elim, arith}
use Rattle.std.proofs.lemmas.Bool.{cases_lt}
use Rattle.ath_tokens.specs.Spelling.{Lexeme, spells}
use Rattle.ath_tokens.specs.Cut.{longest}

step : (bs : List ℕ) (k : ℕ) → Option Lexeme → Option (ℕ × Lexeme)
step bs k o = elim o [ Some l ↦ Some (suc k, l) | None ↦ longest k bs ]

step-some : (bs : List ℕ) (k : ℕ) (l : Lexeme) → spells (take (suc k) bs) ≡ Some l → longest (suc k) bs ≡ Some (suc k, l)
unfolding step
step-some bs k l e = ap (step bs k) e

step-none : (bs : List ℕ) (k : ℕ) → spells (take (suc k) bs) ≡ None → longest (suc k) bs ≡ longest k bs
unfolding step
step-none bs k e = ap (step bs k) e

-- a front that spells a token, where no longer one does
pub longest-at : (k n : ℕ) (bs : List ℕ) (l : Lexeme) → 0 < n → n ≤ k → spells (take n bs) ≡ Some l
    → ((m : ℕ) → n < m → m ≤ k → spells (take m bs) ≡ None) → longest k bs ≡ Some (n, l)
longest-at zero n bs l some le here none = absurd (omega arith)
longest-at (suc k) n bs l some le here none = ⊎_elim
    (λ below. step-none bs k (none (suc k) below (omega arith)) ∙ longest-at k n bs l some (omega arith) here (λ m a b. none m a (omega arith)))
    (λ above. let same : n ≡ suc k = omega arith in subst (λ i. longest (suc k) bs ≡ Some (i, l)) (sym same) (step-some bs k l (subst (λ i. spells (take i bs) ≡ Some l) same here)))
    (cases_lt n (suc k))

pub longest-none : (k : ℕ) (bs : List ℕ) → ((m : ℕ) → 0 < m → m ≤ k → spells (take m bs) ≡ None) → longest k bs ≡ None
longest-none zero bs none = refl
longest-none (suc k) bs none = step-none bs k (none (suc k) (omega arith) (omega arith)) ∙ longest-none k bs (λ m a b. none m a (omega arith))

-- what a first byte leaves to its rest: where K says what the rest makes of it
module _ (b : ℕ) (bs : List ℕ) (K : List ℕ → Option Lexeme) (by_rest : (xs : List ℕ) → spells (b ∷ xs) ≡ K xs) where
  pub first-at : (n : ℕ) (l : Lexeme) → n ≤ length bs → K (take n bs) ≡ Some l → ((m : ℕ) → n < m → m ≤ length bs → K (take m bs) ≡ None)
      → longest (length (b ∷ bs)) (b ∷ bs) ≡ Some (suc n, l)
  first-at n l le here none = longest-at (suc (length bs)) (suc n) (b ∷ bs) l (omega arith) (omega arith) (by_rest (take n bs) ∙ here) more
    where
      more : (m : ℕ) → suc n < m → m ≤ suc (length bs) → spells (take m (b ∷ bs)) ≡ None
      more zero a c = absurd (omega arith)
      more (suc m) a c = by_rest (take m bs) ∙ none m (omega arith) (omega arith)

  pub first-none : ((m : ℕ) → m ≤ length bs → K (take m bs) ≡ None) → longest (length (b ∷ bs)) (b ∷ bs) ≡ None
  first-none none = longest-none (suc (length bs)) (b ∷ bs) no
    where
      no : (m : ℕ) → 0 < m → m ≤ suc (length bs) → spells (take m (b ∷ bs)) ≡ None
      no zero a c = absurd (omega arith)
      no (suc m) a c = by_rest (take m bs) ∙ none m (omega arith)

len_in : Option (ℕ × Lexeme) → ℕ
len_in (Some t) = t.0
len_in None = 0

lexeme_in : Lexeme → Option (ℕ × Lexeme) → Lexeme
lexeme_in l (Some t) = t.1
lexeme_in l None = l

-- the longest token lies in the text, and its text spells it
pub longest-within : (k n : ℕ) (bs : List ℕ) (l : Lexeme) → longest k bs ≡ Some (n, l) → (0 < n) × (n ≤ k) × (spells (take n bs) ≡ Some l) × ((m : ℕ) → n < m → m ≤ k → spells (take m bs) ≡ None)
unfolding len_in lexeme_in
longest-within zero n bs l e = let clash : None ≡ Some (n, l) = e in cc
longest-within (suc k) n bs l e = by (spells (take (suc k) bs)) refl (λ s. longest-within k n bs l (sym (step-none bs k s) ∙ e))
  where
    by : (o : Option Lexeme) → spells (take (suc k) bs) ≡ o
        → (spells (take (suc k) bs) ≡ None → (0 < n) × (n ≤ k) × (spells (take n bs) ≡ Some l) × ((m : ℕ) → n < m → m ≤ k → spells (take m bs) ≡ None))
        → (0 < n) × (n ≤ suc k) × (spells (take n bs) ≡ Some l) × ((m : ℕ) → n < m → m ≤ suc k → spells (take m bs) ≡ None)
    by (Some l') s shorter =
        let same : Some (suc k, l') ≡ Some (n, l) = sym (step-some bs k l' s) ∙ e in
        let len : suc k ≡ n = ap len_in same in
        let one : l' ≡ l = ap (lexeme_in l) same in
        (omega arith, omega arith, subst (λ i. spells (take i bs) ≡ Some l) len (s ∙ ap Some one), λ m a b. absurd (omega arith))
    by None s shorter =
        let before = shorter s in
        (before.0, omega arith, before.2, λ m a b. ⊎_elim (λ below. before.3 m a (omega arith)) (λ above. let same : suc k ≡ m = omega arith in subst (λ i. spells (take i bs) ≡ None) same s) (cases_lt m (suc k)))
