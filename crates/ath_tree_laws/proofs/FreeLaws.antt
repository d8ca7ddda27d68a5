-- The free variables of a sentence are those of its nameless form, where no binder is in the way of a substitution.
use Rattle.std.proofs.Common.{◌≡◌, ℕ, ◌+◌, Bool, true, false, not, ◌&&◌, ◌||◌, List, [], ◌∷◌, refl, sym, ◌∙◌, ap}
use Rattle.ath_sorts.specs.declared.sorts.Sort.{Var as sort_var}
use Rattle.ath_sorts.proofs.Bools.{and-true, or-false}
use Rattle.ath_trees.specs.declared.node.Var.{Var}
use Rattle.ath_trees.specs.declared.node.Quant.{Quant}
use Rattle.ath_trees.specs.Tree.{Term, Terms, var, app, none, more, Sent, atom, equal, negated, joined, bound}
use Rattle.ath_trees.specs.Variables.{same_var, with_terms, term_vars, free_vars}
use Rattle.ath_trees.specs.Occurrences.{is_among}
use Rattle.ath_trees.specs.Nameless.{NTerm, NTerms, nfree, nbound, napp, nnone, nmore, NSent, natom, nequal, nnegated, njoined, nquant, placed, nameless_term, nameless_terms, nameless_under, term_instance, terms_instance, sent_instance}
use Rattle.ath_trees.specs.Substitution.{subst_sent, replacing}
use Rattle.ath_trees.proofs.Occurring.{by_cases, not_true, same_var-refl, same_var-true, same_var-sym, among-more, among-equal, among-joined, among-bound_of, among-of_bound}
use Rattle.ath_trees.proofs.SubstLaws.{substituted}

-- ---- truth values
and-or : (a b n : Bool) → ((a || b) && n) ≡ ((a && n) || (b && n))
and-or true b true = refl
and-or true true false = refl
and-or true false false = refl
and-or false b n = refl

and-not-or : (a b c : Bool) → (a && not (b || c)) ≡ ((a && not b) && not c)
and-not-or true true c = refl
and-not-or true false c = refl
and-not-or false b c = refl

or-swap : (a b c d : Bool) → ((a || b) || (c || d)) ≡ ((a || c) || (b || d))
or-swap true b c d = refl
or-swap false true true d = refl
or-swap false true false d = refl
or-swap false false c d = refl

-- ---- which variables are free in a nameless form
abbrev mutual
  in_term : Var → NTerm → Bool
  in_term v (nfree w) = same_var v w
  in_term v (nbound j) = false
  in_term v (napp f ss ts) = in_terms v ts

  in_terms : Var → NTerms → Bool
  in_terms v nnone = false
  in_terms v (nmore t ts) = in_term v t || in_terms v ts

abbrev in_sent : Var → NSent → Bool
in_sent v (natom t) = in_term v t
in_sent v (nequal s t) = in_term v s || in_term v t
in_sent v (nnegated p) = in_sent v p
in_sent v (njoined c p q) = in_sent v p || in_sent v q
in_sent v (nquant k s p) = in_sent v p

same_var-turned : (v w : Var) → same_var v w ≡ same_var w v
same_var-turned v w = by_cases (same_var v w)
    (λ t. let e : same_var w v ≡ true = rw (same_var-true v w t) (same_var-refl w) in t ∙ sym e)
    (λ f. f ∙ sym (same_var-sym v w f))

-- a quantifier takes its own variable alone
among-bound : (v : Var) (k : Quant) (y : Var) (p : Sent) → is_among v (free_vars (bound k y p)) ≡ (is_among v (free_vars p) && not (same_var y v))
among-bound v k y p = by_cases (same_var y v)
    (λ t.
    let n : is_among v (free_vars (bound k y p)) ≡ false = not_true (is_among v (free_vars (bound k y p))) (λ e. let m = (among-of_bound v k y p e).0 in absurd (cc)) in
    n ∙ by_cases (is_among v (free_vars p)) (λ u. rw (u, t) refl) (λ g. rw g refl))
    (λ f. by_cases (is_among v (free_vars p))
    (λ u. among-bound_of v k y p f u ∙ rw (u, f) refl)
    (λ g.
    let n : is_among v (free_vars (bound k y p)) ≡ false = not_true (is_among v (free_vars (bound k y p))) (λ e. let m = (among-of_bound v k y p e).1 in absurd (cc)) in
    n ∙ rw g refl))

module _ (v : Var) where
  placed-told : (c : List Var) (i : ℕ) (w : Var) → in_term v (placed c i w) ≡ (same_var v w && not (is_among v c))
  placed-told [] i w = sym (and-true (same_var v w))
  placed-told (u ∷ us) i w = by_cases (same_var u w)
      (λ t. rw t (by_cases (same_var v w)
      (λ s. let e : same_var v u ≡ true = rw (same_var-true u w t) s in rw (s, e) refl)
      (λ s. rw s refl)))
      (λ f. rw f (by_cases (same_var v w)
      (λ s. let e : same_var v u ≡ false = rw (same_var-true v w s) (same_var-sym u w f) in placed-told us (i + 1) w ∙ rw (s, e) refl)
      (λ s. placed-told us (i + 1) w ∙ rw s refl)))

  mutual
    term-told : (c : List Var) (t : Term) → in_term v (nameless_term c t) ≡ (is_among v (term_vars t) && not (is_among v c))
    term-told c (var w) = placed-told c 0 w ∙ ap (λ b. b && not (is_among v c)) (sym (or-false (same_var v w)))
    term-told c (app f ss ts) = terms-told c ts

    terms-told : (c : List Var) (ts : Terms) → in_terms v (nameless_terms c ts) ≡ (is_among v (with_terms [] ts) && not (is_among v c))
    terms-told c none = refl
    terms-told c (more t ts) =
        let a = term-told c t in
        let b = terms-told c ts in
        (λ i. a i || b i) ∙ sym (and-or (is_among v (term_vars t)) (is_among v (with_terms [] ts)) (not (is_among v c))) ∙ ap (λ b. b && not (is_among v c)) (sym (among-more v t ts))

  sent-told : (c : List Var) (p : Sent) → in_sent v (nameless_under c p) ≡ (is_among v (free_vars p) && not (is_among v c))
  sent-told c (atom t) = term-told c t
  sent-told c (equal s t) =
      let a = term-told c s in
      let b = term-told c t in
      (λ i. a i || b i) ∙ sym (and-or (is_among v (term_vars s)) (is_among v (term_vars t)) (not (is_among v c))) ∙ ap (λ b. b && not (is_among v c)) (sym (among-equal v s t))
  sent-told c (negated p) = sent-told c p
  sent-told c (joined k p q) =
      let a = sent-told c p in
      let b = sent-told c q in
      (λ i. a i || b i) ∙ sym (and-or (is_among v (free_vars p)) (is_among v (free_vars q)) (not (is_among v c))) ∙ ap (λ b. b && not (is_among v c)) (sym (among-joined v k p q))
  sent-told c (bound k y p) =
      sent-told (y ∷ c) p ∙ and-not-or (is_among v (free_vars p)) (same_var v y) (is_among v c)
      ∙ ap (λ b. (is_among v (free_vars p) && not b) && not (is_among v c)) (same_var-turned v y)
      ∙ ap (λ b. b && not (is_among v c)) (sym (among-bound v k y p))

  free-told : (p : Sent) → in_sent v (nameless_under [] p) ≡ is_among v (free_vars p)
  free-told p = sent-told [] p ∙ and-true (is_among v (free_vars p))

-- ---- after a term is put
module _ (x v : Var) (by : Term) where
  abbrev put : Bool → Bool → Bool
  put a b = (a && not (same_var x v)) || (b && is_among v (term_vars by))

  put-or : (a b c d : Bool) → (put a b || put c d) ≡ put (a || c) (b || d)
  put-or a b c d =
      let n = not (same_var x v) in
      let m = is_among v (term_vars by) in
      let l = and-or a c n in
      let r = and-or b d m in
      or-swap (a && n) (b && m) (c && n) (d && m) ∙ (λ i. sym l i || sym r i)

  put-var : (w : Var) → in_term v (replacing x by w) ≡ put (same_var v w) (same_var x w)
  put-var w = by_cases (same_var x w)
      (λ t.
      let z : (same_var v w && not (same_var x v)) ≡ false = by_cases (same_var v w)
      (λ s. let e : same_var x v ≡ true = rw (same_var-true v w s) t in rw (s, e) refl)
      (λ s. rw s refl) in
      rw (t, z) (term-told v [] by ∙ and-true (is_among v (term_vars by))))
      (λ f. rw f (by_cases (same_var v w)
      (λ s. let e : same_var x v ≡ false = rw (same_var-true v w s) f in rw (s, e) refl)
      (λ s. rw s refl)))

  mutual
    put-term : (t : NTerm) → in_term v (term_instance (replacing x by) sort_var t) ≡ put (in_term v t) (in_term x t)
    put-term (nfree w) = put-var w
    put-term (nbound j) = refl
    put-term (napp f ss ts) = put-terms ts

    put-terms : (ts : NTerms) → in_terms v (terms_instance (replacing x by) sort_var ts) ≡ put (in_terms v ts) (in_terms x ts)
    put-terms nnone = refl
    put-terms (nmore t ts) =
        let a = put-term t in
        let b = put-terms ts in
        (λ i. a i || b i) ∙ put-or (in_term v t) (in_term x t) (in_terms v ts) (in_terms x ts)

  put-sent : (p : NSent) → in_sent v (sent_instance (replacing x by) sort_var p) ≡ put (in_sent v p) (in_sent x p)
  put-sent (natom t) = put-term t
  put-sent (nequal s t) =
      let a = put-term s in
      let b = put-term t in
      (λ i. a i || b i) ∙ put-or (in_term v s) (in_term x s) (in_term v t) (in_term x t)
  put-sent (nnegated p) = put-sent p
  put-sent (njoined c p q) =
      let a = put-sent p in
      let b = put-sent q in
      (λ i. a i || b i) ∙ put-or (in_sent v p) (in_sent x p) (in_sent v q) (in_sent x q)
  put-sent (nquant k s p) = put-sent p

  pub none-captured : (p : Sent) → is_among v (free_vars (subst_sent x by p)) ≡ put (is_among v (free_vars p)) (is_among x (free_vars p))
  none-captured p =
      let a = free-told v p in
      let b = free-told x p in
      sym (free-told v (subst_sent x by p)) ∙ ap (in_sent v) (substituted x by p) ∙ put-sent (nameless_under [] p) ∙ (λ i. put (a i) (b i))
