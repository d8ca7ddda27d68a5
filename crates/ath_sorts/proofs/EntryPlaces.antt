-- The table of a substitution's entries.
use Rattle.std.proofs.Common.{◌≡◌, ℕ, zero, suc, ◌<◌, ◌≤◌, Bool, true, false, cond, refl, ◌++◌, ◌∷◌, [], List, length, slice_get, Option, Some, None, is_some, sym, ◌∙◌, ap, arith, inl, inr}
use Rattle.std.specs.Map.{lookup}
use Rattle.ath_sorts.specs.declared.sorts.SVar.{SVar}
use Rattle.ath_sorts.specs.declared.sorts.SVar.TheVariants.{Written, Made}
use Rattle.ath_sorts.specs.declared.sorts.Sym.{Sym}
use Rattle.ath_sorts.specs.declared.sorts.Sort.{Sort, Var}
use Rattle.ath_sorts.specs.Places.{HasEntries, LeavesOthers, sort_of_entry, sort_there}
use Rattle.ath_sorts.specs.Sorts.{same_svar, image}
use Rattle.ath_sorts.specs.Substitutions.{entry_of}
use Rattle.ath_sorts.proofs.Bools.{true-not-false}
use Rattle.ath_sorts.proofs.Gets.{get-past, get-seam, some-not-none}
use Rattle.ath_sorts.proofs.SortLaws.{same_svar-true, same-or-not}

-- ---- what an entry more changes
module _ (v : SVar) (s : Sort) where
  abbrev with_entry : List (SVar × Sort) → List (SVar × Sort)
  with_entry es = es ++ (v, s) ∷ []

  other_entry : (w : SVar) → same_svar v w ≡ false → (es : List (SVar × Sort)) → entry_of (with_entry es) w ≡ entry_of es w
  other_entry w d [] = ap (λ b. cond b (Some s) None) d
  other_entry w d (e ∷ es) = ap (λ r. cond (same_svar e.0 w) (Some e.1) r) (other_entry w d es)

  other_place : (w : SVar) → same_svar v w ≡ false → (es : List (SVar × Sort)) (i : ℕ) → sort_of_entry (slice_get (with_entry es) i) w ≡ sort_of_entry (slice_get es i) w
  other_place w d [] zero = ap (λ b. cond b (Some s) None) d
  other_place w d [] (suc i) = refl
  other_place w d (e ∷ es) zero = refl
  other_place w d (e ∷ es) (suc i) = other_place w d es i

  other_there : (w : SVar) → same_svar v w ≡ false → (es : List (SVar × Sort)) (o : Option ℕ) → sort_there (with_entry es) o w ≡ sort_there es o w
  other_there w d es None = refl
  other_there w d es (Some i) = other_place w d es i

  first_stays : (w : SVar) (t : Sort) (es : List (SVar × Sort)) → entry_of es w ≡ Some t → entry_of (with_entry es) w ≡ Some t
  first_stays w t [] h = absurd (some-not-none t (sym h))
  first_stays w t (e ∷ es) h = by (same_svar e.0 w) (first_stays w t es) h
    where
      by : (b : Bool) → (entry_of es w ≡ Some t → entry_of (es ++ (v, s) ∷ []) w ≡ Some t) → cond b (Some e.1) (entry_of es w) ≡ Some t → cond b (Some e.1) (entry_of (es ++ (v, s) ∷ []) w) ≡ Some t
      by true r h = h
      by false r h = r h

  place_stays : (w : SVar) (t : Sort) (es : List (SVar × Sort)) (i : ℕ) → sort_of_entry (slice_get es i) w ≡ Some t → sort_of_entry (slice_get (with_entry es) i) w ≡ Some t
  place_stays w t [] i h = absurd (some-not-none t (sym h))
  place_stays w t (e ∷ es) zero h = h
  place_stays w t (e ∷ es) (suc i) h = place_stays w t es i h

  there_stays : (w : SVar) (t : Sort) (es : List (SVar × Sort)) (o : Option ℕ) → sort_there es o w ≡ Some t → sort_there (with_entry es) o w ≡ Some t
  there_stays w t es None h = absurd (some-not-none t (sym h))
  there_stays w t es (Some i) h = place_stays w t es i h

  new_entry : (w : SVar) → same_svar v w ≡ true → (es : List (SVar × Sort)) → entry_of es w ≡ None → entry_of (with_entry es) w ≡ Some s
  new_entry w d [] h = ap (λ b. cond b (Some s) None) d
  new_entry w d (e ∷ es) h = by (same_svar e.0 w) (new_entry w d es) h
    where
      by : (b : Bool) → (entry_of es w ≡ None → entry_of (es ++ (v, s) ∷ []) w ≡ Some s) → cond b (Some e.1) (entry_of es w) ≡ None → cond b (Some e.1) (entry_of (es ++ (v, s) ∷ []) w) ≡ Some s
      by true r h = absurd (some-not-none e.1 h)
      by false r h = r h

  some_of : (o : Option Sort) → is_some o ≡ true → (t : Sort) × (o ≡ Some t)
  some_of None h = absurd (true-not-false (sym h))
  some_of (Some t) h = (t, refl)

  -- ---- a variable that has an entry
  pub entry_more : (es : List (SVar × Sort)) (places : List (SVar × ℕ)) → HasEntries es places → is_some (entry_of es v) ≡ true → HasEntries (es ++ (v, s) ∷ []) places
  entry_more es places h there w = elim (same-or-not v w) [
    | inl e ↦
        let f = some_of (entry_of es v) there in
        let g : entry_of es w ≡ Some f.0 = ap (entry_of es) (sym (same_svar-true v w e)) ∙ f.1 in
        there_stays w f.0 es (lookup (same_svar w) places) (h w ∙ g) ∙ sym (first_stays w f.0 es g)
    | inr d ↦ other_there w d es (lookup (same_svar w) places) ∙ h w ∙ sym (other_entry w d es)
  ]

-- ---- a variable that has none
module _ (v : SVar) (es : List (SVar × Sort)) (places more : List (SVar × ℕ)) (h : HasEntries es places) (none : entry_of es v ≡ None) (filed : (q : SVar) → lookup (same_svar q) more ≡ cond (same_svar v q) (Some (length es)) (lookup (same_svar q) places)) where
  file_is : (b : Bool) (w : SVar) → same_svar v w ≡ b → lookup (same_svar w) more ≡ cond b (Some (length es)) (lookup (same_svar w) places)
  file_is b w e = filed w ∙ ap (λ b. cond b (Some (length es)) (lookup (same_svar w) places)) e

  pub place_more : HasEntries es more
  place_more w = elim (same-or-not v w) [
    | inl e ↦
        ap (λ o. sort_there es o w) (file_is true w e)
        ∙ ap (λ o. sort_of_entry o w) (get-past es (length es) (omega arith))
        ∙ sym (ap (entry_of es) (sym (same_svar-true v w e)) ∙ none)
    | inr d ↦ ap (λ o. sort_there es o w) (file_is false w d) ∙ h w
  ]

  pub both_more : (s : Sort) → HasEntries (es ++ (v, s) ∷ []) more
  both_more s w = elim (same-or-not v w) [
    | inl e ↦
        ap (λ o. sort_there (es ++ (v, s) ∷ []) o w) (file_is true w e)
        ∙ ap (λ o. sort_of_entry o w) (get-seam es (v, s) [])
        ∙ ap (λ b. cond b (Some s) None) e
        ∙ sym (new_entry v s w e es (ap (entry_of es) (sym (same_svar-true v w e)) ∙ none))
    | inr d ↦
        ap (λ o. sort_there (es ++ (v, s) ∷ []) o w) (file_is false w d)
        ∙ other_there v s w d es (lookup (same_svar w) places)
        ∙ h w
        ∙ sym (other_entry v s w d es)
  ]

-- ---- what the table finds
module _ (es : List (SVar × Sort)) (places : List (SVar × ℕ)) (v : SVar) (h : HasEntries es places) where
  pub not_filed : lookup (same_svar v) places ≡ None → None ≡ entry_of es v
  not_filed e = sym (ap (λ o. sort_there es o v) e) ∙ h v

  pub filed_past : (i : ℕ) → lookup (same_svar v) places ≡ Some i → slice_get es i ≡ None → None ≡ entry_of es v
  filed_past i e f = sym (ap (λ o. sort_there es o v) e ∙ ap (λ o. sort_of_entry o v) f) ∙ h v

  pub filed_here : (i : ℕ) (x : SVar × Sort) (b : Bool) → lookup (same_svar v) places ≡ Some i → slice_get es i ≡ Some x → same_svar x.0 v ≡ b → cond b (Some x.1) None ≡ entry_of es v
  filed_here i x b e f g = sym (ap (λ o. sort_there es o v) e ∙ ap (λ o. sort_of_entry o v) f ∙ ap (λ b. cond b (Some x.1) None) g) ∙ h v

-- ---- which variables stay
pub image-other : (v : SVar) (s : Sort) (w : SVar) (es : List (SVar × Sort)) → same_svar v w ≡ false → image (es ++ (v, s) ∷ []) w ≡ image es w
image-other v s w [] d = ap (λ b. cond b s (Var w)) d
image-other v s w (e ∷ es) d = ap (λ r. cond (same_svar e.0 w) e.1 r) (image-other v s w es d)

pub leaves-fewer : (es : List (SVar × Sort)) (low lower : ℕ) (may might : Bool) → LeavesOthers es low may → lower ≤ low → (might ≡ false → may ≡ false) → LeavesOthers es lower might
leaves-fewer es low lower may might h l m = record { made = λ n p. h.made n (omega arith); written = λ e. h.written (m e) }

pub leaves-more : (es : List (SVar × Sort)) (v : SVar) (s : Sort) (low : ℕ) (may : Bool) → LeavesOthers es low may → ((n : ℕ) → n < low → same_svar v (Made n) ≡ false) → (may ≡ false → (a : Sym) → same_svar v (Written a) ≡ false) → LeavesOthers (es ++ (v, s) ∷ []) low may
leaves-more es v s low may h made written = record {
  made = λ n p. image-other v s (Made n) es (made n p) ∙ h.made n p;
  written = λ e a. image-other v s (Written a) es (written e a) ∙ h.written e a;
}
