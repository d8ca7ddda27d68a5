-- Walks over two lists that extend a map from member to member.
use Rattle.std.proofs.Common.{◌≡◌, ℕ, zero, suc, ◌<◌, ◌≤◌, ◌+◌, Bool, true, false, List, [], ◌∷◌, length, drop, get_or, Some, None, refl, sym, ◌∙◌, ap, arith}
use Rattle.std.specs.Prelude.{option_and_then}
use Rattle.std.proofs.lemmas.List.{drop_all}
use Rattle.ath_sorts.specs.declared.sorts.SVar.{SVar}
use Rattle.ath_sorts.specs.declared.sorts.Sort.{Sort}
use Rattle.ath_trees.specs.Instance.{Found}
use Rattle.ath_alpha.specs.Answer.{answer}

abbrev pub Map : Type 0
Map = List (SVar × Sort)

module _ {A : Type 0} (m : A → A → Map → Found) where
  abbrev pub walk : List A → List A → Map → Found
  walk [] [] s = Some s
  walk (x ∷ xs) (y ∷ ys) s = option_and_then (walk xs ys) (m x y s)
  walk xs ys s = None

  pub walk-uneven : (xs ys : List A) (s : Map) → (length xs ≡ length ys → ⊥) → None ≡ walk xs ys s
  walk-uneven [] [] s h = absurd (h refl)
  walk-uneven [] (y ∷ ys) s h = refl
  walk-uneven (x ∷ xs) [] s h = refl
  walk-uneven (x ∷ xs) (y ∷ ys) s h = go (m x y s) (λ t. walk-uneven xs ys t (λ e. h (omega arith)))
    where
      go : (o : Found) → ((t : Map) → None ≡ walk xs ys t) → None ≡ option_and_then (walk xs ys) o
      go None k = refl
      go (Some t) k = k t

  pub walk-after-uneven : (xs ys : List A) (o : Found) → (length xs ≡ length ys → ⊥) → None ≡ option_and_then (walk xs ys) o
  walk-after-uneven xs ys None h = refl
  walk-after-uneven xs ys (Some s) h = walk-uneven xs ys s h

  pub walk-end : (xs ys : List A) (i : ℕ) (s : Map) → length xs ≤ i → length ys ≤ i → walk (drop i xs) (drop i ys) s ≡ Some s
  walk-end xs ys i s h k = rw (drop_all i xs h, drop_all i ys k) refl

  pub walk-one : (x y : A) (s : Map) → walk (x ∷ []) (y ∷ []) s ≡ m x y s
  walk-one x y s = go (m x y s)
    where
      go : (o : Found) → option_and_then (walk [] []) o ≡ o
      go None = refl
      go (Some t) = refl

  -- a member more
  pub walk-step : (xs ys : List A) (i : ℕ) (a b : A) (s : Map) → i < length xs → i < length ys → walk (drop i xs) (drop i ys) s ≡ option_and_then (walk (drop (i + 1) xs) (drop (i + 1) ys)) (m (get_or xs i a) (get_or ys i b) s)
  walk-step [] ys i a b s h k = absurd (omega arith)
  walk-step (x ∷ xs) [] i a b s h k = absurd (omega arith)
  walk-step (x ∷ xs) (y ∷ ys) zero a b s h k = refl
  walk-step (x ∷ xs) (y ∷ ys) (suc i) a b s h k = let e : suc i + 1 ≡ suc (i + 1) = omega arith in rw e (walk-step xs ys i a b s (omega arith) (omega arith))

  module _ (xs ys : List A) (i : ℕ) (a b x y : A) (s t : Map) (h : i < length xs) (k : i < length ys) (is_x : x ≡ get_or xs i a) (is_y : y ≡ get_or ys i b) where
    step-at : walk (drop i xs) (drop i ys) s ≡ option_and_then (walk (drop (i + 1) xs) (drop (i + 1) ys)) (m x y s)
    step-at = walk-step xs ys i a b s h k ∙ (λ j. option_and_then (walk (drop (i + 1) xs) (drop (i + 1) ys)) (m (sym is_x j) (sym is_y j) s))

    pub walk-more : (r : Bool) → r ≡ true → answer r t ≡ m x y s → walk (drop i xs) (drop i ys) s ≡ walk (drop (i + 1) xs) (drop (i + 1) ys) t
    walk-more r g e = step-at ∙ ap (option_and_then (walk (drop (i + 1) xs) (drop (i + 1) ys))) (sym e ∙ ap (λ c. answer c t) g)

    pub walk-stops : (r : Bool) → r ≡ false → answer r t ≡ m x y s → walk (drop i xs) (drop i ys) s ≡ None
    walk-stops r g e = step-at ∙ ap (option_and_then (walk (drop (i + 1) xs) (drop (i + 1) ys))) (sym e ∙ ap (λ c. answer c t) g)
