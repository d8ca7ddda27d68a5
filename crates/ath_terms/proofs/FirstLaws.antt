-- A table of the first items of a list.
use Rattle.std.proofs.Common.{◌≡◌, ℕ, zero, suc, Bool, true, false, cond, refl, ◌++◌, ◌∷◌, [], List, length, slice_get, Option, Some, None, is_some, sym, ◌∙◌, ap, arith, ◌⊎◌, inl, inr}
use Rattle.std.specs.Prelude.{find}
use Rattle.std.specs.Map.{lookup}
use Rattle.ath_sorts.proofs.Bools.{true-not-false}
use Rattle.ath_sorts.proofs.Gets.{get-past, get-seam, some-not-none}
use Rattle.ath_terms.specs.Firsts.{HasFirsts, item_of, item_there}

module _ {A K : Type 0} (same : K → K → Bool) (key : A → K) (one : (k l : K) → same k l ≡ true → k ≡ l) where
  same-or : (k l : K) → (same k l ≡ true) ⊎ (same k l ≡ false)
  same-or k l = by (same k l) refl
    where
      by : (b : Bool) → same k l ≡ b → (same k l ≡ true) ⊎ (same k l ≡ false)
      by true e = inl e
      by false e = inr e

  -- ---- what an item more changes
  module _ (a : A) where
    other_item : (k : K) → same k (key a) ≡ false → (xs : List A) → find (λ x. same k (key x)) (xs ++ a ∷ []) ≡ find (λ x. same k (key x)) xs
    other_item k d [] = ap (λ b. cond b (Some a) None) d
    other_item k d (x ∷ xs) = ap (λ r. cond (same k (key x)) (Some x) r) (other_item k d xs)

    other_place : (k : K) → same k (key a) ≡ false → (xs : List A) (i : ℕ) → item_of same key (slice_get (xs ++ a ∷ []) i) k ≡ item_of same key (slice_get xs i) k
    other_place k d [] zero = ap (λ b. cond b (Some a) None) d
    other_place k d [] (suc i) = refl
    other_place k d (x ∷ xs) zero = refl
    other_place k d (x ∷ xs) (suc i) = other_place k d xs i

    other_there : (k : K) → same k (key a) ≡ false → (xs : List A) (o : Option ℕ) → item_there same key (xs ++ a ∷ []) o k ≡ item_there same key xs o k
    other_there k d xs None = refl
    other_there k d xs (Some i) = other_place k d xs i

    first_stays : (k : K) (b : A) (xs : List A) → find (λ x. same k (key x)) xs ≡ Some b → find (λ x. same k (key x)) (xs ++ a ∷ []) ≡ Some b
    first_stays k b [] h = absurd (some-not-none b (sym h))
    first_stays k b (x ∷ xs) h = by (same k (key x)) (first_stays k b xs) h
      where
        by : (c : Bool) → (find (λ x. same k (key x)) xs ≡ Some b → find (λ x. same k (key x)) (xs ++ a ∷ []) ≡ Some b) → cond c (Some x) (find (λ x. same k (key x)) xs) ≡ Some b → cond c (Some x) (find (λ x. same k (key x)) (xs ++ a ∷ [])) ≡ Some b
        by true r h = h
        by false r h = r h

    place_stays : (k : K) (b : A) (xs : List A) (i : ℕ) → item_of same key (slice_get xs i) k ≡ Some b → item_of same key (slice_get (xs ++ a ∷ []) i) k ≡ Some b
    place_stays k b [] i h = absurd (some-not-none b (sym h))
    place_stays k b (x ∷ xs) zero h = h
    place_stays k b (x ∷ xs) (suc i) h = place_stays k b xs i h

    there_stays : (k : K) (b : A) (xs : List A) (o : Option ℕ) → item_there same key xs o k ≡ Some b → item_there same key (xs ++ a ∷ []) o k ≡ Some b
    there_stays k b xs None h = absurd (some-not-none b (sym h))
    there_stays k b xs (Some i) h = place_stays k b xs i h

    new_item : (k : K) → same k (key a) ≡ true → (xs : List A) → find (λ x. same k (key x)) xs ≡ None → find (λ x. same k (key x)) (xs ++ a ∷ []) ≡ Some a
    new_item k d [] h = ap (λ b. cond b (Some a) None) d
    new_item k d (x ∷ xs) h = by (same k (key x)) (new_item k d xs) h
      where
        by : (b : Bool) → (find (λ x. same k (key x)) xs ≡ None → find (λ x. same k (key x)) (xs ++ a ∷ []) ≡ Some a) → cond b (Some x) (find (λ x. same k (key x)) xs) ≡ None → cond b (Some x) (find (λ x. same k (key x)) (xs ++ a ∷ [])) ≡ Some a
        by true r h = absurd (some-not-none x h)
        by false r h = r h

    some_of : (o : Option A) → is_some o ≡ true → (b : A) × (o ≡ Some b)
    some_of None h = absurd (true-not-false (sym h))
    some_of (Some b) h = (b, refl)

    -- ---- an item whose key has one
    pub first_more : (xs : List A) (places : List (K × ℕ)) → HasFirsts same key xs places → is_some (find (λ x. same (key a) (key x)) xs) ≡ true → HasFirsts same key (xs ++ a ∷ []) places
    first_more xs places h there k = elim (same-or k (key a)) [
      | inl e ↦
          let f = some_of (find (λ x. same (key a) (key x)) xs) there in
          let g : find (λ x. same k (key x)) xs ≡ Some f.0 = ap (λ (l : K). find (λ x. same l (key x)) xs) (one k (key a) e) ∙ f.1 in
          there_stays k f.0 xs (lookup (same k) places) (h k ∙ g) ∙ sym (first_stays k f.0 xs g)
      | inr d ↦ other_there k d xs (lookup (same k) places) ∙ h k ∙ sym (other_item k d xs)
    ]

  -- ---- an item whose key has none
  module _ (a : A) (turned : (k l : K) → same k l ≡ same l k) (xs : List A) (places more : List (K × ℕ)) (h : HasFirsts same key xs places) (none : find (λ x. same (key a) (key x)) xs ≡ None) (filed : (k : K) → lookup (same k) more ≡ cond (same (key a) k) (Some (length xs)) (lookup (same k) places)) where
    file_is : (b : Bool) (k : K) → same k (key a) ≡ b → lookup (same k) more ≡ cond b (Some (length xs)) (lookup (same k) places)
    file_is b k e = filed k ∙ ap (λ b. cond b (Some (length xs)) (lookup (same k) places)) (turned (key a) k ∙ e)

    none_at : (k : K) → same k (key a) ≡ true → find (λ x. same k (key x)) xs ≡ None
    none_at k e = ap (λ (l : K). find (λ x. same l (key x)) xs) (one k (key a) e) ∙ none

    pub place_more : HasFirsts same key xs more
    place_more k = elim (same-or k (key a)) [
      | inl e ↦
          ap (λ o. item_there same key xs o k) (file_is true k e)
          ∙ ap (λ o. item_of same key o k) (get-past xs (length xs) (omega arith))
          ∙ sym (none_at k e)
      | inr d ↦ ap (λ o. item_there same key xs o k) (file_is false k d) ∙ h k
    ]

    pub both_more : HasFirsts same key (xs ++ a ∷ []) more
    both_more k = elim (same-or k (key a)) [
      | inl e ↦
          ap (λ o. item_there same key (xs ++ a ∷ []) o k) (file_is true k e)
          ∙ ap (λ o. item_of same key o k) (get-seam xs a [])
          ∙ ap (λ b. cond b (Some a) None) e
          ∙ sym (new_item a k e xs (none_at k e))
      | inr d ↦
          ap (λ o. item_there same key (xs ++ a ∷ []) o k) (file_is false k d)
          ∙ other_there a k d xs (lookup (same k) places)
          ∙ h k
          ∙ sym (other_item a k d xs)
    ]

-- ---- what the table finds
module _ {A K : Type 0} (same : K → K → Bool) (key : A → K) (xs : List A) (places : List (K × ℕ)) (k : K) (h : HasFirsts same key xs places) where
  pub not_filed : lookup (same k) places ≡ None → None ≡ find (λ x. same k (key x)) xs
  not_filed e = sym (ap (λ o. item_there same key xs o k) e) ∙ h k

  pub filed_past : (i : ℕ) → lookup (same k) places ≡ Some i → slice_get xs i ≡ None → None ≡ find (λ x. same k (key x)) xs
  filed_past i e f = sym (ap (λ o. item_there same key xs o k) e ∙ ap (λ o. item_of same key o k) f) ∙ h k

  pub filed_here : (i : ℕ) (x : A) (b : Bool) → lookup (same k) places ≡ Some i → slice_get xs i ≡ Some x → same k (key x) ≡ b → cond b (Some x) None ≡ find (λ x. same k (key x)) xs
  filed_here i x b e f g = sym (ap (λ o. item_there same key xs o k) e ∙ ap (λ o. item_of same key o k) f ∙ ap (λ b. cond b (Some x) None) g) ∙ h k
