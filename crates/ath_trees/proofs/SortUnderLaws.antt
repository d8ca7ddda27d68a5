-- A sentence at other sorts has the nameless form at these sorts.
use Rattle.std.proofs.Common.{◌≡◌, ℕ, zero, suc, ◌+◌, ◌≤◌, max, true, false, not, ◌&&◌, List, [], ◌∷◌, map, refl, sym, ◌∙◌, ap, arith, ◌⊎◌, inl, inr}
use Rattle.ath_sorts.specs.declared.sorts.SVar.{SVar}
use Rattle.ath_sorts.specs.declared.sorts.Sort.{Sort}
use Rattle.ath_sorts.specs.Sorts.{apply_to}
use Rattle.ath_sorts.proofs.Bools.{and_parts, or_parts, either_of}
use Rattle.ath_trees.specs.declared.node.Var.{Var}
use Rattle.ath_trees.specs.Tree.{Term, Terms, var, app, none, more, Sent, atom, equal, negated, joined, bound}
use Rattle.ath_trees.specs.Measure.{sent_size, sent_depth}
use Rattle.ath_trees.specs.Variables.{same_var, with_terms, term_vars, free_vars}
use Rattle.ath_trees.specs.Occurrences.{is_among, every_var, renewed}
use Rattle.ath_trees.specs.Under.{var_under, term_under, terms_under, sent_under, has_no_binder}
use Rattle.ath_trees.specs.Nameless.{NTerm, nfree, nbound, napp, nmore, natom, nequal, nnegated, njoined, nquant, placed, nameless_term, nameless_terms, nameless_under, nameless, term_instance, terms_instance, sent_instance}
use Rattle.ath_trees.specs.Substitution.{subst_term, subst_terms}
use Rattle.ath_trees.specs.SortUnder.{is_met, at_sorts_to, sent_at_sorts}
use Rattle.ath_trees.specs.Renamed.{renamed}
use Rattle.ath_trees.proofs.Occurring.{by_cases, or-left, or-right, same_var-refl, same_var-true, same_var-sym, apart, unnamed, not_named, among-more, among-equal, among-joined, among-bound_of, among-of_bound, free-every}
use Rattle.ath_trees.proofs.Renaming.{renewed-unused, shift, placed-shift, binder-renamed, size-renamed, depth-renamed, sent-deep, subst-renamed}
use Rattle.ath_trees.proofs.UnderLaws.{sent_size-under, sent_depth-under}

-- ---- what is free after a renaming
abbrev Stays : Var → Var → Var → List Var → Type 0
Stays y y' w us = (same_var w y' ≡ true) ⊎ ((same_var y w ≡ false) × (is_among w us ≡ true))

stays_more : (y y' w : Var) (us vs : List Var) → (is_among w us ≡ true → is_among w vs ≡ true) → Stays y y' w us → Stays y y' w vs
stays_more y y' w us vs f (inl e) = inl e
stays_more y y' w us vs f (inr e) = inr (e.0, f e.1)

mutual
  stays-term : (y y' w : Var) (t : Term) → is_among w (term_vars (subst_term y (var y') t)) ≡ true → Stays y y' w (term_vars t)
  stays-term y y' w (var v) h = by_cases (same_var y v)
      (λ t. elim (either_of (same_var w y') false (rw t at h)) [ inl e ↦ inl e | inr e ↦ absurd (cc) ])
      (λ f. elim (either_of (same_var w v) false (rw f at h)) [ inl e ↦ inr (rw (same_var-true w v e) f, rw e) | inr e ↦ absurd (cc) ])
  stays-term y y' w (app f ss ts) h = stays-terms y y' w ts h

  stays-terms : (y y' w : Var) (ts : Terms) → is_among w (with_terms [] (subst_terms y (var y') ts)) ≡ true → Stays y y' w (with_terms [] ts)
  stays-terms y y' w none h = absurd (cc)
  stays-terms y y' w (more t ts) h = elim (either_of _ _ (sym (among-more w (subst_term y (var y') t) (subst_terms y (var y') ts)) ∙ h)) [
    | inl e ↦ stays_more y y' w (term_vars t) (with_terms [] (more t ts)) (λ e. among-more w t ts ∙ or-left _ _ e) (stays-term y y' w t e)
    | inr e ↦ stays_more y y' w (with_terms [] ts) (with_terms [] (more t ts)) (λ e. among-more w t ts ∙ or-right _ _ e) (stays-terms y y' w ts e)
  ]

stays : (y y' w : Var) (p : Sent) → is_among w (free_vars (renamed y y' p)) ≡ true → Stays y y' w (free_vars p)
stays y y' w (atom t) h = stays-term y y' w t h
stays y y' w (equal s t) h = elim (either_of _ _ (sym (among-equal w (subst_term y (var y') s) (subst_term y (var y') t)) ∙ h)) [
  | inl e ↦ stays_more y y' w (term_vars s) (free_vars (equal s t)) (λ e. among-equal w s t ∙ or-left _ _ e) (stays-term y y' w s e)
  | inr e ↦ stays_more y y' w (term_vars t) (free_vars (equal s t)) (λ e. among-equal w s t ∙ or-right _ _ e) (stays-term y y' w t e)
]
stays y y' w (negated p) h = stays y y' w p h
stays y y' w (joined k p q) h = elim (either_of _ _ (sym (among-joined w k (renamed y y' p) (renamed y y' q)) ∙ h)) [
  | inl e ↦ stays_more y y' w (free_vars p) (free_vars (joined k p q)) (λ e. among-joined w k p q ∙ or-left _ _ e) (stays y y' w p e)
  | inr e ↦ stays_more y y' w (free_vars q) (free_vars (joined k p q)) (λ e. among-joined w k p q ∙ or-right _ _ e) (stays y y' w q e)
]
stays y y' w (bound q u p) h = by_cases (same_var y u)
    (λ t. let g = rw t at h in let m = among-of_bound w q u p g in inr (rw (same_var-true y u t) m.0, g))
    (λ f. let m = among-of_bound w q u (renamed y y' p) (rw f at h) in
    stays_more y y' w (free_vars p) (free_vars (bound q u p)) (λ e. among-bound_of w q u p m.0 e) (stays y y' w p m.1))

-- ---- the law
module _ (f : SVar → Sort) where
  abbrev moved : Var → NTerm
  moved v = nfree (var_under f v)

  met-none : (v w : Var) (us : List Var) → is_met f v us ≡ false → is_among w us ≡ true → same_var v w ≡ false → same_var (var_under f v) (var_under f w) ≡ false
  met-none v w [] e h d = absurd (cc)
  met-none v w (u ∷ us) e h d =
      let m = or_parts (not (same_var v u) && same_var (var_under f v) (var_under f u)) (is_met f v us) e in
      by_cases (same_var w u)
      (λ t. let z = rw (← same_var-true w u t) at m.0 in rw d at z)
      (λ g. met-none v w us m.1 (rw g at h) d)

  moved-shift : (t : NTerm) → shift (term_instance moved f t) ≡ term_instance moved f (shift t)
  moved-shift (nfree v) = refl
  moved-shift (nbound i) = refl
  moved-shift (napp g ss ts) = refl

  -- the binders meet no other of these variables at the new sorts
  abbrev AreKept : List Var → List Var → Type 0
  AreKept c us = (v : Var) → is_among v us ≡ true → placed (map (var_under f) c) 0 (var_under f v) ≡ term_instance moved f (placed c 0 v)

  mutual
    term-moved : (c : List Var) (t : Term) → AreKept c (term_vars t) → nameless_term (map (var_under f) c) (term_under f t) ≡ term_instance moved f (nameless_term c t)
    term-moved c (var v) h = h v (rw (same_var-refl v))
    term-moved c (app g ss ts) h = ap (napp g (map (apply_to f) ss)) (terms-moved c ts h)

    terms-moved : (c : List Var) (ts : Terms) → AreKept c (with_terms [] ts) → nameless_terms (map (var_under f) c) (terms_under f ts) ≡ terms_instance moved f (nameless_terms c ts)
    terms-moved c none h = refl
    terms-moved c (more t ts) h =
        let p = term-moved c t (λ v e. h v (among-more v t ts ∙ or-left _ _ e)) in
        let q = terms-moved c ts (λ v e. h v (among-more v t ts ∙ or-right _ _ e)) in
        λ i. nmore (p i) (q i)

  -- under one more binder
  kept_under : (c : List Var) (y v : Var) → (same_var y v ≡ false → (same_var (var_under f y) (var_under f v) ≡ false) × (placed (map (var_under f) c) 0 (var_under f v) ≡ term_instance moved f (placed c 0 v)))
      → placed (map (var_under f) (y ∷ c)) 0 (var_under f v) ≡ term_instance moved f (placed (y ∷ c) 0 v)
  kept_under c y v h = by_cases (same_var y v)
      (λ t. let e = same_var-true y v t in let r : same_var (var_under f y) (var_under f v) ≡ true = rw (← e) (same_var-refl (var_under f y)) in rw (t, r))
      (λ g. let k = h g in rw (g, k.0) (placed-shift (map (var_under f) c) 0 (var_under f v) ∙ ap shift k.1 ∙ moved-shift (placed c 0 v) ∙ ap (term_instance moved f) (sym (placed-shift c 0 v))))

  to-moved : (n : ℕ) (c : List Var) (p : Sent) → sent_depth p ≤ n → AreKept c (free_vars p) → nameless_under (map (var_under f) c) (at_sorts_to n f p) ≡ sent_instance moved f (nameless_under c p)
  to-moved zero c p l h = absurd (let k = sent-deep p in omega arith)
  to-moved (suc n) c (atom t) l h = ap natom (term-moved c t h)
  to-moved (suc n) c (equal s t) l h =
      let p = term-moved c s (λ v e. h v (among-equal v s t ∙ or-left _ _ e)) in
      let q = term-moved c t (λ v e. h v (among-equal v s t ∙ or-right _ _ e)) in
      λ i. nequal (p i) (q i)
  to-moved (suc n) c (negated p) l h = ap nnegated (to-moved n c p (omega arith) h)
  to-moved (suc n) c (joined k p q) l h =
      let a = to-moved n c p (omega arith) (λ v e. h v (among-joined v k p q ∙ or-left _ _ e)) in
      let b = to-moved n c q (omega arith) (λ v e. h v (among-joined v k p q ∙ or-right _ _ e)) in
      λ i. njoined k (a i) (b i)
  to-moved (suc n) c (bound q y p) l h = by_cases (is_met f y (free_vars p))
      (λ t.
      let new = renewed y (every_var p) in
      let un = renewed-unused y (every_var p) in
      let r = subst-renamed n y new p (omega arith) un in
      let e = to-moved n (new ∷ c) (renamed y new p) (omega (arith, depth-renamed y new p)) (λ w i. kept_under c new w (λ d.
      elim (stays y new w p i) [
        | inl s ↦ absurd (let z = same_var-sym new w d in cc)
        | inr s ↦
            let g = not_named new w (every_var p) un (free-every w p s.1) in
            (apart (var_under f new) (var_under f w) g, h w (among-bound_of w q y p s.0 s.1))
      ]))
      ∙ ap (sent_instance moved f) (binder-renamed c y new p (unnamed new (every_var p) un)) in
      rw (t, r) (ap (nquant q (apply_to f y.sort)) e))
      (λ g. let e = to-moved n (y ∷ c) p (omega arith) (λ w i. kept_under c y w (λ d. (met-none y w (free_vars p) g i d, h w (among-bound_of w q y p d i)))) in
      rw g (ap (nquant q (apply_to f y.sort)) e))

  pub at_sorts_moved : (p : Sent) → nameless (sent_at_sorts f p) ≡ sent_instance moved f (nameless p)
  at_sorts_moved p = to-moved (sent_depth p) [] p (omega arith) (λ v e. refl)

-- ---- without binders nothing is renamed
without_binders : (n : ℕ) (f : SVar → Sort) (p : Sent) → sent_depth p ≤ n → has_no_binder p ≡ true → at_sorts_to n f p ≡ sent_under f p
without_binders zero f p l h = absurd (let k = sent-deep p in omega arith)
without_binders (suc n) f (atom t) l h = refl
without_binders (suc n) f (equal s t) l h = refl
without_binders (suc n) f (negated p) l h = ap negated (without_binders n f p (omega arith) h)
without_binders (suc n) f (joined c p q) l h =
    let m = and_parts (has_no_binder p) (has_no_binder q) h in
    let a = without_binders n f p (omega arith) m.0 in
    let b = without_binders n f q (omega arith) m.1 in
    λ i. joined c (a i) (b i)
without_binders (suc n) f (bound k v p) l h = absurd (cc)

pub at_sorts-unbound : (f : SVar → Sort) (p : Sent) → has_no_binder p ≡ true → sent_at_sorts f p ≡ sent_under f p
at_sorts-unbound f p h = without_binders (sent_depth p) f p (omega arith) h

-- ---- its nodes and levels stay
measured : (n : ℕ) (f : SVar → Sort) (p : Sent) → sent_depth p ≤ n → (sent_size (at_sorts_to n f p) ≡ sent_size p) × (sent_depth (at_sorts_to n f p) ≡ sent_depth p)
measured zero f p l = absurd (let k = sent-deep p in omega arith)
measured (suc n) f (atom t) l = (sent_size-under f (atom t), sent_depth-under f (atom t))
measured (suc n) f (equal s t) l = (sent_size-under f (equal s t), sent_depth-under f (equal s t))
measured (suc n) f (negated p) l = let m = measured n f p (omega arith) in (ap (λ k. 1 + k) m.0, ap (λ k. 1 + k) m.1)
measured (suc n) f (joined c p q) l =
    let a = measured n f p (omega arith) in
    let b = measured n f q (omega arith) in
    (λ i. 1 + a.0 i + b.0 i, λ i. 1 + max (a.1 i) (b.1 i))
measured (suc n) f (bound k v p) l =
    let new = renewed v (every_var p) in
    let un = renewed-unused v (every_var p) in
    let r = subst-renamed n v new p (omega arith) un in
    by_cases (is_met f v (free_vars p))
    (λ t.
    let m = measured n f (renamed v new p) (omega (arith, depth-renamed v new p)) in
    (rw (t, r) (ap (λ k. 1 + k) (m.0 ∙ size-renamed v new p)), rw (t, r) (ap (λ k. 1 + k) (m.1 ∙ depth-renamed v new p))))
    (λ g. let m = measured n f p (omega arith) in (rw g (ap (λ k. 1 + k) m.0), rw g (ap (λ k. 1 + k) m.1)))

pub at_sorts-size : (f : SVar → Sort) (p : Sent) → sent_size (sent_at_sorts f p) ≡ sent_size p
at_sorts-size f p = (measured (sent_depth p) f p (omega arith)).0

pub at_sorts-depth : (f : SVar → Sort) (p : Sent) → sent_depth (sent_at_sorts f p) ≡ sent_depth p
at_sorts-depth f p = (measured (sent_depth p) f p (omega arith)).1
