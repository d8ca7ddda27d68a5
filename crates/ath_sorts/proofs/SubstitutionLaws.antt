-- Laws of substitutions.
use Rattle.std.proofs.Common.{◌≡◌, ◌++◌, Bool, true, false, cond, List, [], ◌∷◌, map, Option, Some, None, refl, sym, ◌∙◌, ap, ◌⊎◌, inl, inr}
use Rattle.std.specs.List.{AllByRecursion}
use Rattle.std.specs.Option.{is_some}
use Rattle.ath_sorts.specs.declared.sorts.SVar.{SVar}
use Rattle.ath_sorts.specs.declared.sorts.Sym.{Sym}
use Rattle.ath_sorts.specs.declared.sorts.Sort.{Sort, Var, Con}
use Rattle.ath_sorts.specs.Sorts.{same_svar, image, apply_to, after}
use Rattle.ath_sorts.specs.Substitutions.{entry_of}
use Rattle.ath_sorts.proofs.SortLaws.{sort_induction, apply-var, apply-con, Con-inj, Var-not-Con}
use Rattle.ath_sorts.proofs.Gets.{cons-head, cons-tail, some-inj}

some_step : (b : Bool) (x r t : Sort) (o : Option Sort) → (o ≡ Some t → r ≡ t) → cond b (Some x) o ≡ Some t → cond b x r ≡ t
some_step true x r t o f h = some-inj x t h
some_step false x r t o f h = f h

pub image-some : (s : List (SVar × Sort)) (v : SVar) (t : Sort) → entry_of s v ≡ Some t → image s v ≡ t
image-some [] v t h = absurd (cc)
image-some (e ∷ s) v t h = some_step (same_svar e.0 v) e.1 (image s v) t (entry_of s v) (image-some s v t) h

none_step : (b : Bool) (x r t : Sort) (o : Option Sort) → (o ≡ None → r ≡ t) → cond b (Some x) o ≡ None → cond b x r ≡ t
none_step true x r t o f h = absurd (cc)
none_step false x r t o f h = f h

pub image-none : (s : List (SVar × Sort)) (v : SVar) → entry_of s v ≡ None → image s v ≡ Var v
image-none [] v h = refl
image-none (e ∷ s) v h = none_step (same_svar e.0 v) e.1 (image s v) (Var v) (entry_of s v) (image-none s v) h

-- what the map makes of a sort, by its form
pub apply-at-some : (s : List (SVar × Sort)) (sort t : Sort) (v : SVar) → sort ≡ Var v → Some t ≡ entry_of s v → apply_to (image s) sort ≡ t
apply-at-some s sort t v e h = ap (apply_to (image s)) e ∙ apply-var (image s) v ∙ image-some s v t (sym h)

pub apply-at-none : (s : List (SVar × Sort)) (sort : Sort) (v : SVar) → sort ≡ Var v → None ≡ entry_of s v → apply_to (image s) sort ≡ Var v
apply-at-none s sort v e h = ap (apply_to (image s)) e ∙ apply-var (image s) v ∙ image-none s v (sym h)

pub apply-at-con : (s : List (SVar × Sort)) (sort : Sort) (c : Sym) (args : List Sort) → sort ≡ Con c args → apply_to (image s) sort ≡ Con c (map (apply_to (image s)) args)
apply-at-con s sort c args e = ap (apply_to (image s)) e ∙ apply-con (image s) c args

all_through : (f g h : Sort → Sort) (args : List Sort) → AllByRecursion (λ s. f (g s) ≡ h s) args → map f (map g args) ≡ map h args
all_through f g h [] p = refl
all_through f g h (s ∷ ss) p = let r = all_through f g h ss p.1 in let q = p.0 in cc

pub apply-apply : (f g : SVar → Sort) (s : Sort) → apply_to f (apply_to g s) ≡ apply_to (λ v. apply_to f (g v)) s
apply-apply f g =
    let P : Sort → Type 0 = λ s. apply_to f (apply_to g s) ≡ apply_to (λ v. apply_to f (g v)) s in
    sort_induction P
    (λ v. ap (apply_to f) (apply-var g v) ∙ sym (apply-var (λ w. apply_to f (g w)) v))
    (λ c args h. ap (apply_to f) (apply-con g c args) ∙ apply-con f c (map (apply_to g) args) ∙ ap (Con c) (all_through (apply_to f) (apply_to g) (apply_to (λ v. apply_to f (g v))) args h) ∙ sym (apply-con (λ v. apply_to f (g v)) c args))

pub apply-same : (f g : SVar → Sort) (s : Sort) → ((v : SVar) → f v ≡ g v) → apply_to f s ≡ apply_to g s
apply-same f g s h = ap (λ (k : SVar → Sort). apply_to k s) (λ i v. h v i)

after_step : (b : Bool) (x y x' y' : Sort) → x ≡ x' → y ≡ y' → cond b x y ≡ cond b x' y'
after_step b x y x' y' p q = cc

apply_cond : (f : SVar → Sort) (b : Bool) (x y : Sort) → apply_to f (cond b x y) ≡ cond b (apply_to f x) (apply_to f y)
apply_cond f true x y = refl
apply_cond f false x y = refl

pub image-after : (s t : List (SVar × Sort)) (v : SVar) → image (after s t) v ≡ apply_to (image s) (image t v)
image-after s [] v = sym (apply-var (image s) v)
image-after s (e ∷ t) v = after_step (same_svar e.0 v) (apply_to (image s) e.1) (image (after s t) v) (apply_to (image s) e.1) (apply_to (image s) (image t v)) refl (image-after s t v) ∙ sym (apply_cond (image s) (same_svar e.0 v) e.1 (image t v))

pub applying : (s t : List (SVar × Sort)) (sort : Sort) → apply_to (image s) (apply_to (image t) sort) ≡ apply_to (image (after s t)) sort
applying s t sort = apply-apply (image s) (image t) sort ∙ sym (apply-same (image (after s t)) (λ v. apply_to (image s) (image t v)) sort (image-after s t))

-- a sort is a variable or has a constructor
pub sort_cases : (s : Sort) → ((v : SVar) × (s ≡ Var v)) ⊎ ((c : Sym) × ((args : List Sort) × (s ≡ Con c args)))
sort_cases =
    let P : Sort → Type 0 = λ s. ((v : SVar) × (s ≡ Var v)) ⊎ ((c : Sym) × ((args : List Sort) × (s ≡ Con c args))) in
    sort_induction P (λ v. inl (v, refl)) (λ c args h. inr (c, (args, refl)))

-- what is changed into a variable is a variable
pub var-from : (f : SVar → Sort) (s : Sort) (w : SVar) → apply_to f s ≡ Var w → (u : SVar) × ((s ≡ Var u) × (f u ≡ Var w))
var-from f s w e = elim (sort_cases s) [
  | inl h ↦ (h.0, (h.1, sym (apply-var f h.0) ∙ ap (apply_to f) (sym h.1) ∙ e))
  | inr h ↦ absurd (Var-not-Con w h.0 (map (apply_to f) h.1.0) (sym e ∙ ap (apply_to f) h.1.1 ∙ apply-con f h.0 h.1.0))
]

-- what one map leaves as it is, another leaves too that fixes the same variables
module _ (f g : SVar → Sort) (fixes : (w : SVar) → f w ≡ Var w → g w ≡ Var w) where
  all_fixed : (args : List Sort) → AllByRecursion (λ s. apply_to f s ≡ s → apply_to g s ≡ s) args → map (apply_to f) args ≡ args → map (apply_to g) args ≡ args
  all_fixed [] h e = refl
  all_fixed (s ∷ ss) h e =
      let p = h.0 (cons-head (apply_to f s) s (map (apply_to f) ss) ss e) in
      let q = all_fixed ss h.1 (cons-tail (apply_to f s) s (map (apply_to f) ss) ss e) in
      cc

  pub fixed : (s : Sort) → apply_to f s ≡ s → apply_to g s ≡ s
  fixed =
      let P : Sort → Type 0 = λ s. apply_to f s ≡ s → apply_to g s ≡ s in
      sort_induction P
      (λ v e. apply-var g v ∙ fixes v (sym (apply-var f v) ∙ e))
      (λ c args h e. apply-con g c args ∙ ap (Con c) (all_fixed args h (Con-inj c c (map (apply_to f) args) args (sym (apply-con f c args) ∙ e)).1))

-- a map with one more entry behind the others
pub entry-more : (s : List (SVar × Sort)) (e : SVar × Sort) (v : SVar) → entry_of (s ++ e ∷ []) v ≡ cond (is_some (entry_of s v)) (entry_of s v) (cond (same_svar e.0 v) (Some e.1) None)
entry-more [] e v = refl
entry-more (x ∷ s) e v = by (same_svar x.0 v) (entry-more s e v)
  where
    by : (b : Bool) → entry_of (s ++ e ∷ []) v ≡ cond (is_some (entry_of s v)) (entry_of s v) (cond (same_svar e.0 v) (Some e.1) None) → cond b (Some x.1) (entry_of (s ++ e ∷ []) v) ≡ cond (is_some (cond b (Some x.1) (entry_of s v))) (cond b (Some x.1) (entry_of s v)) (cond (same_svar e.0 v) (Some e.1) None)
    by true h = refl
    by false h = h

pub entry-kept : (s : List (SVar × Sort)) (e : SVar × Sort) (w : SVar) (t : Sort) → entry_of s w ≡ Some t → entry_of (s ++ e ∷ []) w ≡ Some t
entry-kept s e w t h = entry-more s e w ∙ ap (λ o. cond (is_some o) o (cond (same_svar e.0 w) (Some e.1) None)) h

pub entry-absent : (s : List (SVar × Sort)) (e : SVar × Sort) (w : SVar) → entry_of s w ≡ None → entry_of (s ++ e ∷ []) w ≡ cond (same_svar e.0 w) (Some e.1) None
entry-absent s e w h = entry-more s e w ∙ ap (λ o. cond (is_some o) o (cond (same_svar e.0 w) (Some e.1) None)) h

pub opt_cases : (o : Option Sort) → (o ≡ None) ⊎ ((t : Sort) × (o ≡ Some t))
opt_cases None = inl refl
opt_cases (Some t) = inr (t, refl)
