-- What is alpha-equal to a well-sorted sentence is well-sorted.
use Rattle.std.proofs.Common.{◌≡◌, ℕ, ◌+◌, ◌≤◌, true, List, [], ◌∷◌, length, map, sym, ◌∙◌, ap, subst, arith}
use Rattle.std.specs.List.{list_all}
use Rattle.ath_sorts.specs.declared.sorts.Sym.{Sym}
use Rattle.ath_sorts.specs.declared.sorts.Sort.{Sort}
use Rattle.ath_sorts.specs.Signature.{Signature, symbol_of, at_sorts, boolean}
use Rattle.ath_trees.specs.declared.node.Var.{Var}
use Rattle.ath_trees.specs.Tree.{Term, Terms, var, app, none, more, Sent, atom, equal, negated, joined, bound}
use Rattle.ath_trees.specs.Nameless.{NTerms, nbound, napp, placed, nameless_term, nameless_terms, nameless_under, AlphaEqual}
use Rattle.ath_trees.specs.Variables.{same_var}
use Rattle.ath_trees.specs.WellSorted.{is_valid_sort, HasSort, var_has, app_has, HaveSorts, none_has, more_has, IsWellSorted}
use Rattle.ath_trees.proofs.Forms.{free-inj, app-inj, more-inj, atom-inj, equal-inj, negated-inj, joined-inj, quant-inj}
use Rattle.ath_trees.proofs.Occurring.{by_cases, same_var-true}

-- a bound variable's number counts the binders inside its own
placed-above : (c : List Var) (i j : ℕ) (v : Var) → placed c i v ≡ nbound j → i ≤ j
placed-above [] i j v e = absurd (cc)
placed-above (w ∷ ws) i j v e = by_cases (same_var w v)
    (λ t. let n : nbound i ≡ nbound j = rw t at e in let m : i ≡ j = cc in rw m (omega arith))
    (λ f. let m = placed-above ws (i + 1) j v (rw f at e) in omega (arith, m))

placed-no-app : (c : List Var) (i : ℕ) (v : Var) (f : Sym) (ss : List Sort) (ts : NTerms) → placed c i v ≡ napp f ss ts → ⊥
placed-no-app [] i v f ss ts e = cc
placed-no-app (w ∷ ws) i v f ss ts e = by_cases (same_var w v)
    (λ t. let n : nbound i ≡ napp f ss ts = rw t at e in cc)
    (λ g. placed-no-app ws (i + 1) v f ss ts (rw g at e))

-- two lists of binders with the same sorts
abbrev AreAlike : List Var → List Var → Type 0
AreAlike [] [] = Unit {0}
AreAlike (v ∷ vs) (w ∷ ws) = (v.sort ≡ w.sort) × AreAlike vs ws
AreAlike vs ws = ⊥

-- variables that are placed alike have one sort
placed-sort : (c d : List Var) (i : ℕ) (v w : Var) → AreAlike c d → placed c i v ≡ placed d i w → v.sort ≡ w.sort
placed-sort [] [] i v w a e = ap (λ (u : Var). u.sort) (free-inj v w e)
placed-sort [] (y ∷ d) i v w a e = absurd a
placed-sort (x ∷ c) [] i v w a e = absurd a
placed-sort (x ∷ c) (y ∷ d) i v w a e = by_cases (same_var x v)
    (λ t. by_cases (same_var y w)
    (λ u. ap (λ (z : Var). z.sort) (sym (same_var-true x v t)) ∙ a.0 ∙ ap (λ (z : Var). z.sort) (same_var-true y w u))
    (λ g. absurd (let l = placed-above d (i + 1) i w (sym (rw (t, g) at e)) in omega (arith, l))))
    (λ f. by_cases (same_var y w)
    (λ u. absurd (let l = placed-above c (i + 1) i v (rw (f, u) at e) in omega (arith, l)))
    (λ g. placed-sort c d (i + 1) v w a.1 (rw (f, g) at e)))

module _ (sig : Signature) where
  mutual
    term-alike : (c d : List Var) (t u : Term) (s : Sort) → AreAlike c d → nameless_term c t ≡ nameless_term d u → HasSort sig t s → HasSort sig u s
    term-alike c d (var v) (var w) s a e (var_has valid is) =
        let p = placed-sort c d 0 v w a e in
        var_has (subst (λ (r : Sort). is_valid_sort sig r ≡ true) p valid) (is ∙ p)
    term-alike c d (var v) (app g us vs) s a e h = absurd (placed-no-app c 0 v g us (nameless_terms d vs) e)
    term-alike c d (app f ss ts) (var w) s a e h = absurd (placed-no-app d 0 w f ss (nameless_terms c ts) (sym e))
    term-alike c d (app f ss ts) (app g us vs) s a e (app_has k is l valid args r) =
        let p = app-inj f g ss us (nameless_terms c ts) (nameless_terms d vs) e in
        let q : f ≡ g = λ i. record { 0 = p.0 i } in
        let rest = terms-alike c d ts vs (map (at_sorts k.params ss) k.args) a p.1.1 args in
        app_has k (ap (symbol_of sig) (sym q) ∙ is) (ap length (sym p.1.0) ∙ l) (ap (list_all (is_valid_sort sig)) (sym p.1.0) ∙ valid)
        (subst (λ (z : List Sort). HaveSorts sig vs (map (at_sorts k.params z) k.args)) p.1.0 rest)
        (r ∙ ap (λ (z : List Sort). at_sorts k.params z k.result) p.1.0)

    terms-alike : (c d : List Var) (ts us : Terms) (ss : List Sort) → AreAlike c d → nameless_terms c ts ≡ nameless_terms d us → HaveSorts sig ts ss → HaveSorts sig us ss
    terms-alike c d none none ss a e none_has = none_has
    terms-alike c d none (more u us) ss a e h = absurd (cc)
    terms-alike c d (more t ts) none ss a e h = absurd (cc)
    terms-alike c d (more t ts) (more u us) _ a e (more_has {s} {ss} h k) =
        let p = more-inj (nameless_term c t) (nameless_term d u) (nameless_terms c ts) (nameless_terms d us) e in
        more_has (term-alike c d t u s a p.0 h) (terms-alike c d ts us ss a p.1 k)

  sent-alike : (c d : List Var) (p q : Sent) → AreAlike c d → nameless_under c p ≡ nameless_under d q → IsWellSorted sig p → IsWellSorted sig q
  sent-alike c d (atom t) (atom u) a e w = term-alike c d t u boolean a (atom-inj (nameless_term c t) (nameless_term d u) e) w
  sent-alike c d (equal s t) (equal u v) a e w =
      let p = equal-inj (nameless_term c s) (nameless_term c t) (nameless_term d u) (nameless_term d v) e in
      (w.0, (term-alike c d s u w.0 a p.0 w.1.0, term-alike c d t v w.0 a p.1 w.1.1))
  sent-alike c d (negated p) (negated q) a e w = sent-alike c d p q a (negated-inj (nameless_under c p) (nameless_under d q) e) w
  sent-alike c d (joined k p q) (joined l r t) a e w =
      let i = joined-inj k l (nameless_under c p) (nameless_under c q) (nameless_under d r) (nameless_under d t) e in
      (sent-alike c d p r a i.1.0 w.0, sent-alike c d q t a i.1.1 w.1)
  sent-alike c d (bound k v p) (bound l u q) a e w =
      let i = quant-inj k l v.sort u.sort (nameless_under (v ∷ c) p) (nameless_under (u ∷ d) q) e in
      (ap (is_valid_sort sig) (sym i.1.0) ∙ w.0, sent-alike (v ∷ c) (u ∷ d) p q (i.1.0, a) i.1.1 w.1)
  sent-alike c d (atom t) (equal u v) a e w = absurd (cc)
  sent-alike c d (atom t) (negated q) a e w = absurd (cc)
  sent-alike c d (atom t) (joined k q r) a e w = absurd (cc)
  sent-alike c d (atom t) (bound k v q) a e w = absurd (cc)
  sent-alike c d (equal s t) (atom u) a e w = absurd (cc)
  sent-alike c d (equal s t) (negated q) a e w = absurd (cc)
  sent-alike c d (equal s t) (joined k q r) a e w = absurd (cc)
  sent-alike c d (equal s t) (bound k v q) a e w = absurd (cc)
  sent-alike c d (negated p) (atom u) a e w = absurd (cc)
  sent-alike c d (negated p) (equal u v) a e w = absurd (cc)
  sent-alike c d (negated p) (joined k q r) a e w = absurd (cc)
  sent-alike c d (negated p) (bound k v q) a e w = absurd (cc)
  sent-alike c d (joined j p s) (atom u) a e w = absurd (cc)
  sent-alike c d (joined j p s) (equal u v) a e w = absurd (cc)
  sent-alike c d (joined j p s) (negated q) a e w = absurd (cc)
  sent-alike c d (joined j p s) (bound k v q) a e w = absurd (cc)
  sent-alike c d (bound j x p) (atom u) a e w = absurd (cc)
  sent-alike c d (bound j x p) (equal u v) a e w = absurd (cc)
  sent-alike c d (bound j x p) (negated q) a e w = absurd (cc)
  sent-alike c d (bound j x p) (joined k q r) a e w = absurd (cc)

  pub alpha-sorted : (p q : Sent) → AlphaEqual p q → IsWellSorted sig p → IsWellSorted sig q
  alpha-sorted p q e w = sent-alike [] [] p q tt e w
