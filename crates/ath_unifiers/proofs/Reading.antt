-- The variables of the pairs whose sides differ, and what becomes of them when a variable is replaced.
use Rattle.std.proofs.Common.{◌≡◌, ℕ, ◌<◌, ◌≤◌, Bool, true, false, cond, List, [], ◌∷◌, ◌++◌, map, length, take, refl, sym, ◌∙◌, ap, subst, arith, ◌⊎◌, inl, inr}
use Rattle.std.specs.List.{AllByRecursion, list_any}
use Rattle.std.proofs.lemmas.List.{take-map}
use Rattle.std.proofs.lemmas.List.Folds.{list_any-append}
use Rattle.ath_sorts.specs.declared.sorts.SVar.{SVar}
use Rattle.ath_sorts.specs.declared.sorts.Sort.{Sort, Var}
use Rattle.ath_sorts.specs.Sorts.{same_svar, image, apply_to, occurs}
use Rattle.ath_unifiers.specs.Unifiers.{Unifies}
use Rattle.ath_sorts.specs.Equality.{same_sort}
use Rattle.ath_unifiers.specs.Order.{concatenated, vars_of, vars_read}
use Rattle.ath_sorts.proofs.Bools.{bool_cases, either_of, either_to, true-not-false}
use Rattle.ath_sorts.proofs.SameSorts.{same_sort-true}
use Rattle.ath_unifiers.proofs.VariableLaws.{vars-var, vars-con}
use Rattle.ath_sorts.proofs.SortLaws.{sort_induction, apply-var, apply-con, occurs-var, occurs-con, same_svar-true, same_svar-refl}
use Rattle.ath_sorts.proofs.SubstitutionLaws.{apply-apply}
use Rattle.ath_unifiers.specs.Differences.{replaced}

abbrev pub is_in : List SVar → SVar → Bool
is_in vs u = list_any (λ w. same_svar w u) vs

-- u occurs in a pair whose sides differ
abbrev pub IsRead : SVar → List (Sort × Sort) → Type 0
IsRead u [] = ⊥
IsRead u (p ∷ pairs) = ((p.0 ≡ p.1 → ⊥) × ((occurs u p.0 ≡ true) ⊎ (occurs u p.1 ≡ true))) ⊎ IsRead u pairs

in_left : (vs ws : List SVar) (u : SVar) → is_in vs u ≡ true → is_in (vs ++ ws) u ≡ true
in_left vs ws u h = list_any-append (λ w. same_svar w u) vs ws ∙ either_to (is_in vs u) (is_in ws u) (inl h)

in_right : (vs ws : List SVar) (u : SVar) → is_in ws u ≡ true → is_in (vs ++ ws) u ≡ true
in_right vs ws u h = list_any-append (λ w. same_svar w u) vs ws ∙ either_to (is_in vs u) (is_in ws u) (inr h)

module _ (u : SVar) where
  abbrev IsListed : Sort → Type 0
  IsListed s = occurs u s ≡ true → is_in (vars_of s) u ≡ true

  among_listed : (args : List Sort) → AllByRecursion IsListed args → list_any (occurs u) args ≡ true → is_in (concatenated (map vars_of args)) u ≡ true
  among_listed [] h e = absurd (cc)
  among_listed (s ∷ ss) h e = elim (either_of (occurs u s) (list_any (occurs u) ss) e) [
    | inl p ↦ in_left (vars_of s) (concatenated (map vars_of ss)) u (h.0 p)
    | inr p ↦ in_right (vars_of s) (concatenated (map vars_of ss)) u (among_listed ss h.1 p)
  ]

  listed : (s : Sort) → IsListed s
  listed = sort_induction IsListed
      (λ w e.
      let same = same_svar-true u w (sym (occurs-var u w) ∙ e) in
      ap (λ vs. is_in vs u) (vars-var w) ∙ either_to (same_svar w u) false (inl (ap (same_svar w) same ∙ same_svar-refl w)))
      (λ c args h e. ap (λ vs. is_in vs u) (vars-con c args) ∙ among_listed args h (sym (occurs-con u c args) ∙ e))

  pub read_in : (pairs : List (Sort × Sort)) → IsRead u pairs → is_in (vars_read pairs) u ≡ true
  read_in [] h = absurd h
  read_in (p ∷ pairs) h = elim h [
    | inl k ↦
        let differ : same_sort p.0 p.1 ≡ false = elim (bool_cases (same_sort p.0 p.1)) [ inl e ↦ absurd (k.0 (same_sort-true p.0 p.1 e)) | inr e ↦ e ] in
        let here : is_in (vars_of p.0 ++ vars_of p.1) u ≡ true = elim k.1 [ inl e ↦ in_left (vars_of p.0) (vars_of p.1) u (listed p.0 e) | inr e ↦ in_right (vars_of p.0) (vars_of p.1) u (listed p.1 e) ] in
        in_left (cond (same_sort p.0 p.1) [] (vars_of p.0 ++ vars_of p.1)) (vars_read pairs) u (ap (λ b. is_in (cond b [] (vars_of p.0 ++ vars_of p.1)) u) differ ∙ here)
    | inr k ↦ in_right (cond (same_sort p.0 p.1) [] (vars_of p.0 ++ vars_of p.1)) (vars_read pairs) u (read_in pairs k)
  ]

-- a list of variables without one
abbrev pub removed : SVar → List SVar → List SVar
removed v [] = []
removed v (w ∷ ws) = cond (same_svar w v) (removed v ws) (w ∷ removed v ws)

pub removed_in : (v u : SVar) (vs : List SVar) → same_svar v u ≡ false → is_in vs u ≡ true → is_in (removed v vs) u ≡ true
removed_in v u [] d h = h
removed_in v u (w ∷ ws) d h = by (same_svar w v) refl (either_of (same_svar w u) (is_in ws u) h) (removed_in v u ws d)
  where
    by : (b : Bool) → same_svar w v ≡ b → (same_svar w u ≡ true) ⊎ (is_in ws u ≡ true) → (is_in ws u ≡ true → is_in (removed v ws) u ≡ true) → is_in (cond b (removed v ws) (w ∷ removed v ws)) u ≡ true
    by true e (inl p) rest = absurd (true-not-false (sym (ap (λ x. same_svar x u) (sym (same_svar-true w v e)) ∙ p) ∙ d))
    by true e (inr p) rest = rest p
    by false e (inl p) rest = either_to (same_svar w u) (is_in (removed v ws) u) (inl p)
    by false e (inr p) rest = either_to (same_svar w u) (is_in (removed v ws) u) (inr (rest p))

no_longer : (v : SVar) (vs : List SVar) → length (removed v vs) ≤ length vs
no_longer v [] = omega arith
no_longer v (w ∷ ws) = by (same_svar w v) (no_longer v ws)
  where
    by : (b : Bool) → length (removed v ws) ≤ length ws → length (cond b (removed v ws) (w ∷ removed v ws)) ≤ length (w ∷ ws)
    by true l = omega arith
    by false l = omega arith

pub shorter : (v : SVar) (vs : List SVar) → is_in vs v ≡ true → length (removed v vs) < length vs
shorter v [] h = absurd (cc)
shorter v (w ∷ ws) h = by (same_svar w v) refl (either_of (same_svar w v) (is_in ws v) h) (shorter v ws)
  where
    by : (b : Bool) → same_svar w v ≡ b → (same_svar w v ≡ true) ⊎ (is_in ws v ≡ true) → (is_in ws v ≡ true → length (removed v ws) < length ws) → length (cond b (removed v ws) (w ∷ removed v ws)) < length (w ∷ ws)
    by true e h rest = let l = no_longer v ws in omega arith
    by false e (inl p) rest = absurd (true-not-false (sym p ∙ e))
    by false e (inr p) rest = let l = rest p in omega arith

-- the sort t put for the variable v
module _ (v : SVar) (t : Sort) where
  abbrev put : SVar → Sort
  put w = image ((v, t) ∷ []) w

  -- who makes v equal to t makes the same of what is replaced
  pub put_same : (f : SVar → Sort) → f v ≡ apply_to f t → (w : SVar) → apply_to f (image ((v, t) ∷ []) w) ≡ f w
  put_same f h w = by (same_svar v w) refl
    where
      by : (b : Bool) → same_svar v w ≡ b → apply_to f (cond b t (Var w)) ≡ f w
      by true e = sym h ∙ ap f (same_svar-true v w e)
      by false e = apply-var f w

  all_to : (f : SVar → Sort) (pairs : List (Sort × Sort)) → Unifies (λ w. apply_to f (image ((v, t) ∷ []) w)) pairs → Unifies f (replaced v t pairs)
  all_to f [] u = tt
  all_to f (p ∷ pairs) u = (apply-apply f put p.0 ∙ u.0 ∙ sym (apply-apply f put p.1), all_to f pairs u.1)

  all_from : (f : SVar → Sort) (pairs : List (Sort × Sort)) → Unifies f (replaced v t pairs) → Unifies (λ w. apply_to f (image ((v, t) ∷ []) w)) pairs
  all_from f [] u = tt
  all_from f (p ∷ pairs) u = (sym (apply-apply f put p.0) ∙ u.0 ∙ apply-apply f put p.1, all_from f pairs u.1)

  pub unifies_to : (f : SVar → Sort) (k : ℕ) (pairs : List (Sort × Sort)) → Unifies (λ w. apply_to f (image ((v, t) ∷ []) w)) (take k pairs) → Unifies f (take k (replaced v t pairs))
  unifies_to f k pairs u = subst (Unifies f) (sym (take-map (λ p. (apply_to put p.0, apply_to put p.1)) k pairs)) (all_to f (take k pairs) u)

  pub unifies_from : (f : SVar → Sort) (k : ℕ) (pairs : List (Sort × Sort)) → Unifies f (take k (replaced v t pairs)) → Unifies (λ w. apply_to f (image ((v, t) ∷ []) w)) (take k pairs)
  unifies_from f k pairs u = all_from f (take k pairs) (subst (Unifies f) (take-map (λ p. (apply_to put p.0, apply_to put p.1)) k pairs) u)

  pub unifies_all : (f : SVar → Sort) (pairs : List (Sort × Sort)) → f v ≡ apply_to f t → Unifies f pairs → Unifies f (replaced v t pairs)
  unifies_all f pairs h u = all_to f pairs (subst (λ (g : SVar → Sort). Unifies g pairs) (λ i w. sym (put_same f h w) i) u)

  pub unifies_back : (f : SVar → Sort) (pairs : List (Sort × Sort)) → Unifies f (replaced v t pairs) → Unifies (λ w. apply_to f (image ((v, t) ∷ []) w)) pairs
  unifies_back f pairs u = all_from f pairs u

  pub unifies_first : (f : SVar → Sort) (k : ℕ) (pairs : List (Sort × Sort)) → f v ≡ apply_to f t → Unifies f (take k pairs) → Unifies f (take k (replaced v t pairs))
  unifies_first f k pairs h u = unifies_to f k pairs (subst (λ (g : SVar → Sort). Unifies g (take k pairs)) (λ i w. sym (put_same f h w) i) u)

  -- variables of what is replaced are others than v, of t or from before
  module _ (absent : occurs v t ≡ false) (u : SVar) where
    other : same_svar v u ≡ true → occurs u t ≡ true → ⊥
    other e k = true-not-false (sym (ap (λ x. occurs x t) (same_svar-true v u e) ∙ k) ∙ absent)

    other_than : occurs u t ≡ true → same_svar v u ≡ false
    other_than k = elim (bool_cases (same_svar v u)) [ inl e ↦ absurd (other e k) | inr e ↦ e ]

    abbrev IsFrom : Sort → Type 0
    IsFrom s = occurs u (apply_to put s) ≡ true → ((occurs u t ≡ true) ⊎ (occurs u s ≡ true)) × (same_svar v u ≡ false)

    var_from : (w : SVar) → occurs u (image ((v, t) ∷ []) w) ≡ true → ((occurs u t ≡ true) ⊎ (occurs u (Var w) ≡ true)) × (same_svar v u ≡ false)
    var_from w = by (same_svar v w) refl
      where
        by : (b : Bool) → same_svar v w ≡ b → occurs u (cond b t (Var w)) ≡ true → ((occurs u t ≡ true) ⊎ (occurs u (Var w) ≡ true)) × (same_svar v u ≡ false)
        by true e k = (inl k, other_than k)
        by false e k = (inr k, ap (same_svar v) (same_svar-true u w (sym (occurs-var u w) ∙ k)) ∙ e)

    all_from_old : (args : List Sort) → AllByRecursion IsFrom args → list_any (occurs u) (map (apply_to put) args) ≡ true → ((occurs u t ≡ true) ⊎ (list_any (occurs u) args ≡ true)) × (same_svar v u ≡ false)
    all_from_old [] h e = absurd (cc)
    all_from_old (s ∷ ss) h e = elim (either_of (occurs u (apply_to put s)) (list_any (occurs u) (map (apply_to put) ss)) e) [
      | inl p ↦ let r = h.0 p in (elim r.0 [ inl q ↦ inl q | inr q ↦ inr (either_to (occurs u s) (list_any (occurs u) ss) (inl q)) ], r.1)
      | inr p ↦ let r = all_from_old ss h.1 p in (elim r.0 [ inl q ↦ inl q | inr q ↦ inr (either_to (occurs u s) (list_any (occurs u) ss) (inr q)) ], r.1)
    ]

    occurs_from : (s : Sort) → IsFrom s
    occurs_from = sort_induction IsFrom
        (λ w e. var_from w (sym (ap (occurs u) (apply-var put w)) ∙ e))
        (λ c args h e.
        let r = all_from_old args h (sym (occurs-con u c (map (apply_to put) args)) ∙ sym (ap (occurs u) (apply-con put c args)) ∙ e) in
        (elim r.0 [ inl q ↦ inl q | inr q ↦ inr (occurs-con u c args ∙ q) ], r.1))

    pub read_from : (pairs : List (Sort × Sort)) → IsRead u (replaced v t pairs) → ((occurs u t ≡ true) ⊎ IsRead u pairs) × (same_svar v u ≡ false)
    read_from [] h = absurd h
    read_from (p ∷ pairs) h = elim h [
      | inl k ↦
          let apart : p.0 ≡ p.1 → ⊥ = λ e. k.0 (ap (apply_to put) e) in
          elim k.1 [
            | inl e ↦ let r = occurs_from p.0 e in (elim r.0 [ inl q ↦ inl q | inr q ↦ inr (inl (apart, inl q)) ], r.1)
            | inr e ↦ let r = occurs_from p.1 e in (elim r.0 [ inl q ↦ inl q | inr q ↦ inr (inl (apart, inr q)) ], r.1)
          ]
      | inr k ↦ let r = read_from pairs k in (elim r.0 [ inl q ↦ inl q | inr q ↦ inr (inr q) ], r.1)
    ]
