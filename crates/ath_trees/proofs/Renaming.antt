-- The nameless form under other binders, and when a binder is renamed.
use Rattle.std.proofs.Common.{◌≡◌, ℕ, zero, suc, ◌+◌, ◌<◌, ◌≤◌, ◌==◌, max, true, false, List, [], ◌∷◌, refl, sym, ◌∙◌, ap, arith}
use Rattle.std.specs.Prelude.{if◌then◌else◌}
use Rattle.ath_sorts.proofs.Bools.{or_parts, same_num}
use Rattle.ath_trees.specs.declared.node.Var.{Var}
use Rattle.ath_trees.specs.Tree.{Term, Terms, var, app, none, more, Sent, atom, equal, negated, joined, bound}
use Rattle.ath_trees.specs.Measure.{term_size, terms_size, sent_size, term_depth, terms_depth, sent_depth}
use Rattle.ath_trees.specs.Variables.{is_namesake, same_var, with_terms, term_vars, free_vars}
use Rattle.ath_trees.specs.Occurrences.{is_among, is_named, every_var, at_index, ceiling, least_unused, renewed}
use Rattle.ath_trees.specs.Nameless.{NTerm, nfree, nbound, napp, nmore, natom, nequal, nnegated, njoined, nquant, placed, nameless_term, nameless_terms, nameless_under}
use Rattle.ath_trees.specs.Substitution.{subst_term, subst_terms, subst_to}
use Rattle.ath_trees.specs.Renamed.{renamed}
use Rattle.ath_trees.proofs.Occurring.{by_cases, or-left, or-right, not_true, namesake-sym, same_var-refl, same_var-true, same_var-sym, among-append, named-append, among-more, among-equal, among-joined, among-bound_of, among-of_bound, free-every}

-- ---- a renewed variable is unused
pub below_ceiling : (v : Var) (k : ℕ) (us : List Var) → ceiling us ≤ k → is_named (at_index v k) us ≡ false
below_ceiling v k [] h = refl
below_ceiling v k (u ∷ us) h =
    let r = below_ceiling v k us (omega arith) in
    by_cases (k == u.index)
    (λ t. let e = same_num k u.index t in absurd (omega arith))
    (λ f. by_cases (v.name.0 == u.name.0) (λ t. rw (t, f) r) (λ g. rw g r))

least-unused : (n k : ℕ) (v : Var) (us : List Var) → ceiling us ≤ k + n → is_named (at_index v (least_unused n k v us)) us ≡ false
least-unused zero k v us h = below_ceiling v k us (omega arith)
least-unused (suc n) k v us h = by_cases (is_named (at_index v k) us)
    (λ t. rw t (least-unused n (k + 1) v us (omega arith)))
    (λ f. rw f f)

pub renewed-unused : (v : Var) (us : List Var) → is_named (renewed v us) us ≡ false
renewed-unused v us = least-unused (ceiling us) 0 v us (omega arith)

-- ---- the place of a variable
abbrev pub shift : NTerm → NTerm
shift (nfree v) = nfree v
shift (nbound i) = nbound (i + 1)
shift (napp f ss ts) = napp f ss ts

pub placed-shift : (ws : List Var) (i : ℕ) (v : Var) → placed ws (i + 1) v ≡ shift (placed ws i v)
placed-shift [] i v = refl
placed-shift (w ∷ ws) i v = by_cases (same_var w v) (λ t. rw t) (λ f. rw f (placed-shift ws (i + 1) v))

-- the same place under c as that of another variable under d
abbrev pub Agree : List Var → List Var → Var → Var → Type 0
Agree c d v w = placed c 0 v ≡ placed d 0 w

under : (c d : List Var) (u v w : Var) → Agree c d v w → same_var u v ≡ same_var u w → Agree (u ∷ c) (u ∷ d) v w
under c d u v w a e = by_cases (same_var u w) (λ t. let s = e ∙ t in rw (s, t)) (λ f. let s = e ∙ f in rw (s, f) (placed-shift c 0 v ∙ ap shift a ∙ sym (placed-shift d 0 w)))

mutual
  pub term-cong : (c d : List Var) (t : Term) → ((v : Var) → is_among v (term_vars t) ≡ true → Agree c d v v) → nameless_term c t ≡ nameless_term d t
  term-cong c d (var v) h = h v (rw (same_var-refl v))
  term-cong c d (app f ss ts) h = ap (napp f ss) (terms-cong c d ts h)

  terms-cong : (c d : List Var) (ts : Terms) → ((v : Var) → is_among v (with_terms [] ts) ≡ true → Agree c d v v) → nameless_terms c ts ≡ nameless_terms d ts
  terms-cong c d none h = refl
  terms-cong c d (more t ts) h =
      let p = term-cong c d t (λ v e. h v (among-more v t ts ∙ or-left _ _ e)) in
      let q = terms-cong c d ts (λ v e. h v (among-more v t ts ∙ or-right _ _ e)) in
      λ i. nmore (p i) (q i)

pub cong : (c d : List Var) (p : Sent) → ((v : Var) → is_among v (free_vars p) ≡ true → Agree c d v v) → nameless_under c p ≡ nameless_under d p
cong c d (atom t) h = ap natom (term-cong c d t h)
cong c d (equal s t) h =
    let p = term-cong c d s (λ v e. h v (among-equal v s t ∙ or-left _ _ e)) in
    let q = term-cong c d t (λ v e. h v (among-equal v s t ∙ or-right _ _ e)) in
    λ i. nequal (p i) (q i)
cong c d (negated p) h = ap nnegated (cong c d p h)
cong c d (joined k p q) h =
    let l = cong c d p (λ v e. h v (among-joined v k p q ∙ or-left _ _ e)) in
    let r = cong c d q (λ v e. h v (among-joined v k p q ∙ or-right _ _ e)) in
    λ i. njoined k (l i) (r i)
cong c d (bound q y p) h =
    ap (nquant q y.sort) (cong (y ∷ c) (y ∷ d) p (λ v e. by_cases (same_var y v)
    (λ t. rw t)
    (λ f. under c d y v v (h v (among-bound_of v q y p f e)) refl)))

-- ---- a renaming: y' has under d the place of y under c
abbrev swapped : Var → Var → Var → Var
swapped y y' v = if same_var y v then y' else v

mutual
  term-renamed : (c d : List Var) (y y' : Var) (t : Term) → ((v : Var) → is_among v (term_vars t) ≡ true → Agree d c (swapped y y' v) v) → nameless_term d (subst_term y (var y') t) ≡ nameless_term c t
  term-renamed c d y y' (var v) h = by_cases (same_var y v)
      (λ t. let k = h v (rw (same_var-refl v)) in rw t (rw t at k))
      (λ f. let k = h v (rw (same_var-refl v)) in rw f (rw f at k))
  term-renamed c d y y' (app f ss ts) h = ap (napp f ss) (terms-renamed c d y y' ts h)

  terms-renamed : (c d : List Var) (y y' : Var) (ts : Terms) → ((v : Var) → is_among v (with_terms [] ts) ≡ true → Agree d c (swapped y y' v) v) → nameless_terms d (subst_terms y (var y') ts) ≡ nameless_terms c ts
  terms-renamed c d y y' none h = refl
  terms-renamed c d y y' (more t ts) h =
      let p = term-renamed c d y y' t (λ v e. h v (among-more v t ts ∙ or-left _ _ e)) in
      let q = terms-renamed c d y y' ts (λ v e. h v (among-more v t ts ∙ or-right _ _ e)) in
      λ i. nmore (p i) (q i)

renames : (c d : List Var) (y y' : Var) (p : Sent) → is_among y' (every_var p) ≡ false → ((v : Var) → is_among v (free_vars p) ≡ true → Agree d c (swapped y y' v) v) → nameless_under d (renamed y y' p) ≡ nameless_under c p
renames c d y y' (atom t) n h = ap natom (term-renamed c d y y' t h)
renames c d y y' (equal s t) n h =
    let p = term-renamed c d y y' s (λ v e. h v (among-equal v s t ∙ or-left _ _ e)) in
    let q = term-renamed c d y y' t (λ v e. h v (among-equal v s t ∙ or-right _ _ e)) in
    λ i. nequal (p i) (q i)
renames c d y y' (negated p) n h = ap nnegated (renames c d y y' p n h)
renames c d y y' (joined k p q) n h =
    let m = or_parts _ _ (sym (among-append y' (every_var p) (every_var q)) ∙ n) in
    let l = renames c d y y' p m.0 (λ v e. h v (among-joined v k p q ∙ or-left _ _ e)) in
    let r = renames c d y y' q m.1 (λ v e. h v (among-joined v k p q ∙ or-right _ _ e)) in
    λ i. njoined k (l i) (r i)
renames c d y y' (bound q u p) n h = by_cases (same_var y u)
    (λ t. rw t (ap (nquant q u.sort) (cong (u ∷ d) (u ∷ c) p (λ v e. by_cases (same_var u v)
    (λ s. rw s)
    (λ f. let g : same_var y v ≡ false = rw (same_var-true y u t) f in
    let k = h v (among-bound_of v q u p f e) in
    under d c u v v (rw g at k) refl)))))
    (λ f. let m = or_parts (same_var y' u) (is_among y' (every_var p)) n in
    rw f (ap (nquant q u.sort) (renames (u ∷ c) (u ∷ d) y y' p m.1 (λ v e. by_cases (same_var u v)
    (λ s. let g : same_var y v ≡ false = rw (← same_var-true u v s) f in rw (g, s))
    (λ g. let k = h v (among-bound_of v q u p g e) in
    under d c u (swapped y y' v) v k (by_cases (same_var y v)
    (λ s. rw s (rw g (same_var-sym y' u m.0)))
    (λ s. rw s)))))))

pub binder-renamed : (c : List Var) (y y' : Var) (p : Sent) → is_among y' (every_var p) ≡ false → nameless_under (y' ∷ c) (renamed y y' p) ≡ nameless_under (y ∷ c) p
binder-renamed c y y' p n = renames (y ∷ c) (y' ∷ c) y y' p n (λ v e. by_cases (same_var y v)
    (λ t. rw (t, same_var-refl y'))
    (λ f. let g : same_var y' v ≡ false = not_true (same_var y' v) (λ t. let a = rw (← same_var-true y' v t) at e in let b = free-every y' p a in absurd (cc)) in
    rw (f, g)))

-- ---- the nodes and the levels
mutual
  pub size-term : (y y' : Var) (t : Term) → term_size (subst_term y (var y') t) ≡ term_size t
  size-term y y' (var v) = by_cases (same_var y v) (λ t. rw t) (λ f. rw f)
  size-term y y' (app f ss ts) = ap (λ n. 1 + n) (size-terms y y' ts)

  size-terms : (y y' : Var) (ts : Terms) → terms_size (subst_terms y (var y') ts) ≡ terms_size ts
  size-terms y y' none = refl
  size-terms y y' (more t ts) = let a = size-term y y' t in let b = size-terms y y' ts in λ i. a i + b i

pub size-renamed : (y y' : Var) (p : Sent) → sent_size (renamed y y' p) ≡ sent_size p
size-renamed y y' (atom t) = size-term y y' t
size-renamed y y' (equal s t) = let a = size-term y y' s in let b = size-term y y' t in λ i. 1 + a i + b i
size-renamed y y' (negated p) = ap (λ n. 1 + n) (size-renamed y y' p)
size-renamed y y' (joined k p q) = let a = size-renamed y y' p in let b = size-renamed y y' q in λ i. 1 + a i + b i
size-renamed y y' (bound q u p) = by_cases (same_var y u) (λ t. rw t) (λ f. rw f (ap (λ n. 1 + n) (size-renamed y y' p)))

mutual
  pub depth-term : (y y' : Var) (t : Term) → term_depth (subst_term y (var y') t) ≡ term_depth t
  depth-term y y' (var v) = by_cases (same_var y v) (λ t. rw t) (λ f. rw f)
  depth-term y y' (app f ss ts) = ap (λ n. 1 + n) (depth-terms y y' ts)

  depth-terms : (y y' : Var) (ts : Terms) → terms_depth (subst_terms y (var y') ts) ≡ terms_depth ts
  depth-terms y y' none = refl
  depth-terms y y' (more t ts) = let a = depth-term y y' t in let b = depth-terms y y' ts in λ i. max (a i) (b i)

pub depth-renamed : (y y' : Var) (p : Sent) → sent_depth (renamed y y' p) ≡ sent_depth p
depth-renamed y y' (atom t) = depth-term y y' t
depth-renamed y y' (equal s t) = let a = depth-term y y' s in let b = depth-term y y' t in λ i. 1 + max (a i) (b i)
depth-renamed y y' (negated p) = ap (λ n. 1 + n) (depth-renamed y y' p)
depth-renamed y y' (joined k p q) = let a = depth-renamed y y' p in let b = depth-renamed y y' q in λ i. 1 + max (a i) (b i)
depth-renamed y y' (bound q u p) = by_cases (same_var y u) (λ t. rw t) (λ f. rw f (ap (λ n. 1 + n) (depth-renamed y y' p)))

term-deep : (t : Term) → 0 < term_depth t
term-deep (var v) = omega arith
term-deep (app f ss ts) = omega arith

pub sent-deep : (p : Sent) → 0 < sent_depth p
sent-deep (atom t) = term-deep t
sent-deep (equal s t) = omega arith
sent-deep (negated p) = omega arith
sent-deep (joined k p q) = omega arith
sent-deep (bound q u p) = omega arith

-- ---- substitution of an unused variable renames no binder
mutual
  pub term-absent : (y : Var) (by t : Term) → is_among y (term_vars t) ≡ false → subst_term y by t ≡ t
  term-absent y by (var v) e = let m = or_parts (same_var y v) false e in rw m.0
  term-absent y by (app f ss ts) e = ap (app f ss) (terms-absent y by ts e)

  terms-absent : (y : Var) (by : Term) (ts : Terms) → is_among y (with_terms [] ts) ≡ false → subst_terms y by ts ≡ ts
  terms-absent y by none e = refl
  terms-absent y by (more t ts) e =
      let m = or_parts (is_among y (term_vars t)) (is_among y (with_terms [] ts)) (sym (among-more y t ts) ∙ e) in
      let a = term-absent y by t m.0 in
      let b = terms-absent y by ts m.1 in
      λ i. more (a i) (b i)

pub renamed-absent : (y y' : Var) (p : Sent) → is_among y (free_vars p) ≡ false → renamed y y' p ≡ p
renamed-absent y y' (atom t) e = ap atom (term-absent y (var y') t e)
renamed-absent y y' (equal s t) e =
    let m = or_parts (is_among y (term_vars s)) (is_among y (term_vars t)) (sym (among-equal y s t) ∙ e) in
    let a = term-absent y (var y') s m.0 in
    let b = term-absent y (var y') t m.1 in
    λ i. equal (a i) (b i)
renamed-absent y y' (negated p) e = ap negated (renamed-absent y y' p e)
renamed-absent y y' (joined k p q) e =
    let m = or_parts (is_among y (free_vars p)) (is_among y (free_vars q)) (sym (among-joined y k p q) ∙ e) in
    let a = renamed-absent y y' p m.0 in
    let b = renamed-absent y y' q m.1 in
    λ i. joined k (a i) (b i)
renamed-absent y y' (bound q u p) e = by_cases (same_var y u)
    (λ t. rw t)
    (λ f. rw f (ap (bound q u) (renamed-absent y y' p (not_true (is_among y (free_vars p)) (λ t. let r = among-bound_of y q u p (same_var-sym y u f) t in absurd (cc))))))

pub subst-renamed : (n : ℕ) (y y' : Var) (p : Sent) → sent_depth p ≤ n → is_named y' (every_var p) ≡ false → subst_to n y (var y') p ≡ renamed y y' p
subst-renamed zero y y' p h e = absurd (let d = sent-deep p in omega arith)
subst-renamed (suc n) y y' (atom t) h e = refl
subst-renamed (suc n) y y' (equal s t) h e = refl
subst-renamed (suc n) y y' (negated p) h e = ap negated (subst-renamed n y y' p (omega arith) e)
subst-renamed (suc n) y y' (joined k p q) h e =
    let m = or_parts (is_named y' (every_var p)) (is_named y' (every_var q)) (sym (named-append y' (every_var p) (every_var q)) ∙ e) in
    let a = subst-renamed n y y' p (omega arith) m.0 in
    let b = subst-renamed n y y' q (omega arith) m.1 in
    λ i. joined k (a i) (b i)
subst-renamed (suc n) y y' (bound q u p) h e =
    let m = or_parts (is_namesake y' u) (is_named y' (every_var p)) e in
    let s : is_namesake u y' ≡ false = namesake-sym u y' ∙ m.0 in
    by_cases (is_among y (free_vars (bound q u p)))
    (λ t. let o = among-of_bound y q u p t in
    let r = subst-renamed n y y' p (omega arith) m.1 in
    rw (t, s, same_var-sym u y o.0) (ap (bound q u) r))
    (λ f. rw f (sym (renamed-absent y y' (bound q u p) f)))
