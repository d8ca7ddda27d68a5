-- A substitution by name has the nameless form that substitution on nameless forms gives.
use Rattle.std.proofs.Common.{◌≡◌, ℕ, zero, suc, ◌+◌, ◌≤◌, true, false, List, [], ◌∷◌, ◌++◌, map, refl, sym, ◌∙◌, ap, arith}
use Rattle.std.specs.Prelude.{if◌then◌else◌}
use Rattle.std.specs.List.{AllByRecursion}
use Rattle.ath_sorts.specs.declared.sorts.Sort.{Sort, Var as sort_var, Con}
use Rattle.ath_sorts.specs.Sorts.{apply_to}
use Rattle.ath_sorts.proofs.Bools.{or_parts}
use Rattle.ath_sorts.proofs.SortLaws.{sort_induction, apply-var, apply-con}
use Rattle.ath_trees.specs.declared.node.Var.{Var}
use Rattle.ath_trees.specs.Tree.{Term, Terms, var, app, none, more, Sent, atom, equal, negated, joined, bound}
use Rattle.ath_trees.specs.Measure.{sent_depth}
use Rattle.ath_trees.specs.Variables.{same_var, with_terms, term_vars, free_vars}
use Rattle.ath_trees.specs.Occurrences.{is_among, is_named, every_var}
use Rattle.ath_trees.specs.Nameless.{NTerm, nfree, napp, nmore, natom, nequal, nnegated, njoined, nquant, placed, nameless_term, nameless_terms, nameless_under, nameless, term_instance, terms_instance, sent_instance}
use Rattle.ath_trees.specs.Substitution.{subst_term, subst_terms, other, subst_to, subst_sent, replacing}
use Rattle.ath_trees.specs.Renamed.{renamed}
use Rattle.ath_trees.proofs.Occurring.{by_cases, or-left, or-right, not_true, same_var-refl, same_var-true, same_var-sym, named-append, unnamed, among-more, among-equal, among-joined, among-bound_of, among-of_bound, free-every}
use Rattle.ath_trees.proofs.Renaming.{renewed-unused, term-cong, binder-renamed, depth-renamed, sent-deep, subst-renamed}

pub other-unused : (v : Var) (by : Term) (p : Sent) → (is_named (other v by p) (term_vars by) ≡ false) × (is_named (other v by p) (every_var p) ≡ false)
other-unused v by p = or_parts _ _ (sym (named-append (other v by p) (term_vars by) (every_var p)) ∙ renewed-unused v (term_vars by ++ every_var p))

-- ---- each sort variable for itself
itself_all : (args : List Sort) → AllByRecursion (λ s. apply_to sort_var s ≡ s) args → map (apply_to sort_var) args ≡ args
itself_all [] h = refl
itself_all (s ∷ ss) h = let a = h.0 in let b = itself_all ss h.1 in λ i. a i ∷ b i

pub sort-itself : (s : Sort) → apply_to sort_var s ≡ s
sort-itself =
    let P : Sort → Type 0 = λ s. apply_to sort_var s ≡ s in
    sort_induction P (λ v. apply-var sort_var v) (λ c args h. apply-con sort_var c args ∙ ap (Con c) (itself_all args h))

pub sorts-itself : (ss : List Sort) → map (apply_to sort_var) ss ≡ ss
sorts-itself [] = refl
sorts-itself (s ∷ ss) = let a = sort-itself s in let b = sorts-itself ss in λ i. a i ∷ b i

-- ---- placing
pub placed-outside : (c : List Var) (i : ℕ) (v : Var) → is_among v c ≡ false → placed c i v ≡ nfree v
placed-outside [] i v e = refl
placed-outside (w ∷ ws) i v e = let m = or_parts (same_var v w) (is_among v ws) e in rw (same_var-sym v w m.0) (placed-outside ws (i + 1) v m.1)

module _ (x : Var) (by : NTerm) where
  abbrev put_at : Var → NTerm
  put_at v = if same_var x v then by else nfree v

  abbrev put_term : NTerm → NTerm
  put_term t = term_instance put_at sort_var t

  put-placed : (c : List Var) (i : ℕ) (v : Var) → same_var x v ≡ false → put_term (placed c i v) ≡ placed c i v
  put-placed [] i v e = rw e
  put-placed (w ∷ ws) i v e = by_cases (same_var w v) (λ t. rw t) (λ f. rw f (put-placed ws (i + 1) v e))

  put-inside : (c : List Var) (i : ℕ) → is_among x c ≡ true → put_term (placed c i x) ≡ placed c i x
  put-inside [] i e = absurd (cc)
  put-inside (w ∷ ws) i e = by_cases (same_var w x) (λ t. rw t)
      (λ f. rw f (put-inside ws (i + 1) (rw (same_var-sym w x f) at e)))

  -- ---- nothing to put
  abbrev Idle : List Var → List Var → Type 0
  Idle c us = (v : Var) → is_among v us ≡ true → same_var x v ≡ true → is_among x c ≡ true

  mutual
    term-idle : (c : List Var) (t : Term) → Idle c (term_vars t) → put_term (nameless_term c t) ≡ nameless_term c t
    term-idle c (var v) h = by_cases (same_var x v)
        (λ t. rw (← same_var-true x v t) (put-inside c 0 (h v (rw (same_var-refl v)) t)))
        (λ f. put-placed c 0 v f)
    term-idle c (app f ss ts) h = let a = sorts-itself ss in let b = terms-idle c ts h in λ i. napp f (a i) (b i)

    terms-idle : (c : List Var) (ts : Terms) → Idle c (with_terms [] ts) → terms_instance put_at sort_var (nameless_terms c ts) ≡ nameless_terms c ts
    terms-idle c none h = refl
    terms-idle c (more t ts) h =
        let p = term-idle c t (λ v e. h v (among-more v t ts ∙ or-left _ _ e)) in
        let q = terms-idle c ts (λ v e. h v (among-more v t ts ∙ or-right _ _ e)) in
        λ i. nmore (p i) (q i)

  idle : (c : List Var) (p : Sent) → Idle c (free_vars p) → sent_instance put_at sort_var (nameless_under c p) ≡ nameless_under c p
  idle c (atom t) h = ap natom (term-idle c t h)
  idle c (equal s t) h =
      let p = term-idle c s (λ v e. h v (among-equal v s t ∙ or-left _ _ e)) in
      let q = term-idle c t (λ v e. h v (among-equal v s t ∙ or-right _ _ e)) in
      λ i. nequal (p i) (q i)
  idle c (negated p) h = ap nnegated (idle c p h)
  idle c (joined k p q) h =
      let l = idle c p (λ v e. h v (among-joined v k p q ∙ or-left _ _ e)) in
      let r = idle c q (λ v e. h v (among-joined v k p q ∙ or-right _ _ e)) in
      λ i. njoined k (l i) (r i)
  idle c (bound q y p) h =
      let a = sort-itself y.sort in
      let b = idle (y ∷ c) p (λ v e s. by_cases (same_var y v)
      (λ t. rw (same_var-true x v s, ← same_var-true y v t, same_var-refl y))
      (λ f. or-right _ _ (h v (among-bound_of v q y p f e) s))) in
      λ i. nquant q (a i) (b i)

-- ---- the term that is put has no bound variable
abbrev Apart : Term → List Var → Type 0
Apart by c = (v : Var) → is_among v (term_vars by) ≡ true → is_among v c ≡ false

apart-same : (c : List Var) (by : Term) → Apart by c → nameless_term c by ≡ nameless_term [] by
apart-same c by h = term-cong c [] by (λ v e. placed-outside c 0 v (h v e))

apart-more : (by : Term) (c : List Var) (y : Var) → is_named y (term_vars by) ≡ false → Apart by c → Apart by (y ∷ c)
apart-more by c y n a v e =
    let g : same_var v y ≡ false = not_true (same_var v y) (λ t. let b = rw (same_var-true v y t) at e in let d = unnamed y (term_vars by) n in absurd (cc)) in
    rw g (a v e)

module _ (x : Var) (by : Term) where
  mutual
    term-put : (c : List Var) (t : Term) → is_among x c ≡ false → Apart by c → nameless_term c (subst_term x by t) ≡ term_instance (replacing x by) sort_var (nameless_term c t)
    term-put c (var v) o a = by_cases (same_var x v)
        (λ t. let e = placed-outside c 0 v (rw (same_var-true x v t) at o) in rw (t, e) (rw t (apart-same c by a)))
        (λ f. rw f (sym (put-placed x (nameless_term [] by) c 0 v f)))
    term-put c (app f ss ts) o a = let e = sorts-itself ss in let b = terms-put c ts o a in λ i. napp f (sym e i) (b i)

    terms-put : (c : List Var) (ts : Terms) → is_among x c ≡ false → Apart by c → nameless_terms c (subst_terms x by ts) ≡ terms_instance (replacing x by) sort_var (nameless_terms c ts)
    terms-put c none o a = refl
    terms-put c (more t ts) o a =
        let p = term-put c t o a in
        let q = terms-put c ts o a in
        λ i. nmore (p i) (q i)

  to-put : (n : ℕ) (c : List Var) (p : Sent) → sent_depth p ≤ n → is_among x c ≡ false → Apart by c → nameless_under c (subst_to n x by p) ≡ sent_instance (replacing x by) sort_var (nameless_under c p)
  to-put zero c p h o a = absurd (let k = sent-deep p in omega arith)
  to-put (suc n) c (atom t) h o a = ap natom (term-put c t o a)
  to-put (suc n) c (equal s t) h o a =
      let p = term-put c s o a in
      let q = term-put c t o a in
      λ i. nequal (p i) (q i)
  to-put (suc n) c (negated p) h o a = ap nnegated (to-put n c p (omega arith) o a)
  to-put (suc n) c (joined k p q) h o a =
      let l = to-put n c p (omega arith) o a in
      let r = to-put n c q (omega arith) o a in
      λ i. njoined k (l i) (r i)
  to-put (suc n) c (bound q y p) h o a =
      let s = sort-itself y.sort in
      by_cases (is_among x (free_vars (bound q y p)))
      (λ t. let m = among-of_bound x q y p t in
      rw t (by_cases (is_named y (term_vars by))
      (λ u.
      let new = other y by p in
      let un = other-unused y by p in
      let xo : same_var x new ≡ false = not_true (same_var x new) (λ z. let w = free-every x p m.1 in let u = rw (same_var-true x new z) at w in let d = unnamed new (every_var p) un.1 in absurd (cc)) in
      let r = subst-renamed n y new p (omega arith) un.1 in
      let e = to-put n (new ∷ c) (renamed y new p) (omega (arith, depth-renamed y new p)) (rw xo o) (apart-more by c new un.0 a)
      ∙ ap (sent_instance (replacing x by) sort_var) (binder-renamed c y new p (unnamed new (every_var p) un.1)) in
      rw (u, r) (λ i. nquant q (sym s i) (e i)))
      (λ g. let e = to-put n (y ∷ c) p (omega arith) (rw (same_var-sym y x m.0) o) (apart-more by c y g a) in
      rw g (λ i. nquant q (sym s i) (e i)))))
      (λ f. rw f (sym (idle x (nameless_term [] by) c (bound q y p) (λ v e u. absurd (let w = rw (← same_var-true x v u) at e in cc)))))

pub substituted : (x : Var) (by : Term) (p : Sent) → nameless (subst_sent x by p) ≡ sent_instance (replacing x by) sort_var (nameless p)
substituted x by p = to-put x by (sent_depth p) [] p (omega arith) refl (λ v e. refl)
