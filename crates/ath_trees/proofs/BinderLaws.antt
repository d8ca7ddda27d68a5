-- A quantified sentence at other sorts, and what stays as it is.
use Rattle.std.proofs.Common.{◌≡◌, ℕ, zero, suc, ◌≤◌, ◌&&◌, true, false, List, [], ◌∷◌, map, refl, sym, ◌∙◌, ap, arith, inl, inr}
use Rattle.std.specs.List.{list_all}
use Rattle.ath_sorts.specs.declared.sorts.SVar.{SVar}
use Rattle.ath_sorts.specs.declared.sorts.Sort.{Sort}
use Rattle.ath_sorts.specs.Sorts.{is_small, apply_to}
use Rattle.ath_sorts.specs.Signature.{Signature, symbol_of}
use Rattle.ath_sorts.proofs.Bools.{either_of}
use Rattle.ath_trees.specs.declared.node.Quant.{Quant}
use Rattle.ath_trees.specs.declared.node.Var.{Var}
use Rattle.ath_trees.specs.Tree.{Term, Terms, var, app, none, more, Sent, atom, equal, negated, joined, bound}
use Rattle.ath_trees.specs.Measure.{sent_depth}
use Rattle.ath_trees.specs.SortsIn.{result_sort, has_small_sorts, have_small_sorts, sent_has_small_sorts}
use Rattle.ath_trees.specs.Variables.{same_var, with_terms, term_vars, free_vars}
use Rattle.ath_trees.specs.Occurrences.{is_among, every_var, renewed}
use Rattle.ath_trees.specs.Under.{var_under, term_under, terms_under, sent_under}
use Rattle.ath_trees.specs.Substitution.{subst_term, subst_terms}
use Rattle.ath_trees.specs.Renamed.{renamed}
use Rattle.ath_trees.specs.SortUnder.{is_met, at_sorts_to, sent_at_sorts}
use Rattle.ath_trees.proofs.Occurring.{by_cases, or-left, or-right, same_var-refl, same_var-true, among-append, among-more, free-every}
use Rattle.ath_trees.proofs.Renaming.{renewed-unused, depth-renamed, sent-deep, subst-renamed}
use Rattle.ath_trees.proofs.SortUnderForms.{at_sorts-levels}

-- ---- a binder that is met by another free variable of its body, and one that isn't
module _ (f : SVar → Sort) (k : Quant) (v : Var) (p : Sent) where
  abbrev new : Var
  new = renewed v (every_var p)

  met-step : is_met f v (free_vars p) ≡ true → at_sorts_to (suc (sent_depth p)) f (bound k v p) ≡ bound k (var_under f new) (sent_at_sorts f (renamed v new p))
  met-step t =
      let a = subst-renamed (sent_depth p) v new p (omega arith) (renewed-unused v (every_var p)) in
      let e = at_sorts-levels f (sent_depth p) (sent_depth (renamed v new p)) (renamed v new p) (omega (arith, depth-renamed v new p)) (omega arith) in
      rw (t, a) (ap (bound k (var_under f new)) e)

  pub at_sorts-met : is_met f v (free_vars p) ≡ true → sent_at_sorts f (bound k v p) ≡ bound k (var_under f new) (sent_at_sorts f (renamed v new p))
  at_sorts-met t = at_sorts-levels f (sent_depth (bound k v p)) (suc (sent_depth p)) (bound k v p) (omega arith) (omega arith) ∙ met-step t

  unmet-step : is_met f v (free_vars p) ≡ false → at_sorts_to (suc (sent_depth p)) f (bound k v p) ≡ bound k (var_under f v) (sent_at_sorts f p)
  unmet-step g = rw g refl

  pub at_sorts-unmet : is_met f v (free_vars p) ≡ false → sent_at_sorts f (bound k v p) ≡ bound k (var_under f v) (sent_at_sorts f p)
  at_sorts-unmet g = at_sorts-levels f (sent_depth (bound k v p)) (suc (sent_depth p)) (bound k v p) (omega arith) (omega arith) ∙ unmet-step g

-- ---- a renaming changes no sort
module _ (sig : Signature) (f : SVar → Sort) where
  mutual
    small-term : (y z : Var) (t : Term) → z.sort ≡ y.sort → has_small_sorts sig (term_under f (subst_term y (var z) t)) ≡ has_small_sorts sig (term_under f t)
    small-term y z (var v) e = by_cases (same_var y v)
        (λ t. let p = same_var-true y v t in rw t (ap (λ (s : Sort). is_small (apply_to f s)) (e ∙ ap (λ (u : Var). u.sort) p)))
        (λ n. rw n)
    small-term y z (app g ss ts) e =
        let r = small-terms y z ts e in
        λ i. is_small (result_sort (symbol_of sig g) (map (apply_to f) ss)) && (list_all is_small (map (apply_to f) ss) && r i)

    small-terms : (y z : Var) (ts : Terms) → z.sort ≡ y.sort → have_small_sorts sig (terms_under f (subst_terms y (var z) ts)) ≡ have_small_sorts sig (terms_under f ts)
    small-terms y z none e = refl
    small-terms y z (more t ts) e = let a = small-term y z t e in let b = small-terms y z ts e in λ i. a i && b i

  small-renamed : (y z : Var) (p : Sent) → z.sort ≡ y.sort → sent_has_small_sorts sig (sent_under f (renamed y z p)) ≡ sent_has_small_sorts sig (sent_under f p)
  small-renamed y z (atom t) e = small-term y z t e
  small-renamed y z (equal s t) e = let a = small-term y z s e in let b = small-term y z t e in λ i. a i && b i
  small-renamed y z (negated p) e = small-renamed y z p e
  small-renamed y z (joined c p q) e = let a = small-renamed y z p e in let b = small-renamed y z q e in λ i. a i && b i
  small-renamed y z (bound k v p) e = by_cases (same_var y v)
      (λ t. rw t)
      (λ n. rw n (ap (λ b. is_small (apply_to f v.sort) && b) (small-renamed y z p e)))

  small-to : (n : ℕ) (p : Sent) → sent_depth p ≤ n → sent_has_small_sorts sig (at_sorts_to n f p) ≡ sent_has_small_sorts sig (sent_under f p)
  small-to zero p l = absurd (let k = sent-deep p in omega arith)
  small-to (suc n) (atom t) l = refl
  small-to (suc n) (equal s t) l = refl
  small-to (suc n) (negated p) l = small-to n p (omega arith)
  small-to (suc n) (joined c p q) l = let a = small-to n p (omega arith) in let b = small-to n q (omega arith) in λ i. a i && b i
  small-to (suc n) (bound k v p) l =
      let new = renewed v (every_var p) in
      let a = subst-renamed n v new p (omega arith) (renewed-unused v (every_var p)) in
      by_cases (is_met f v (free_vars p))
      (λ t.
      let e = small-to n (renamed v new p) (omega (arith, depth-renamed v new p)) ∙ small-renamed v new p refl in
      rw (t, a) (ap (λ b. is_small (apply_to f v.sort) && b) e))
      (λ g. let e = small-to n p (omega arith) in rw g (ap (λ b. is_small (apply_to f v.sort) && b) e))

  -- the sorts of a sentence at other sorts are those under the substitution
  pub at_sorts-small : (p : Sent) → sent_has_small_sorts sig (sent_at_sorts f p) ≡ sent_has_small_sorts sig (sent_under f p)
  at_sorts-small p = small-to (sent_depth p) p (omega arith)

-- ---- a sentence whose sorts all stay is left as it is
module _ (f : SVar → Sort) where
  mutual
    fixed-term : (w : Var) (t : Term) → term_under f t ≡ t → is_among w (term_vars t) ≡ true → var_under f w ≡ w
    fixed-term w (var v) e h = elim (either_of (same_var w v) false h) [
      | inl s ↦ let q = same_var-true w v s in let r : var_under f v ≡ v = cc in rw q r
      | inr s ↦ absurd (cc)
    ]
    fixed-term w (app g ss ts) e h = let r : terms_under f ts ≡ ts = cc in fixed-terms w ts r h

    fixed-terms : (w : Var) (ts : Terms) → terms_under f ts ≡ ts → is_among w (with_terms [] ts) ≡ true → var_under f w ≡ w
    fixed-terms w none e h = absurd (cc)
    fixed-terms w (more t ts) e h =
        let a : term_under f t ≡ t = cc in
        let b : terms_under f ts ≡ ts = cc in
        elim (either_of _ _ (sym (among-more w t ts) ∙ h)) [ inl s ↦ fixed-term w t a s | inr s ↦ fixed-terms w ts b s ]

  fixed : (w : Var) (p : Sent) → sent_under f p ≡ p → is_among w (every_var p) ≡ true → var_under f w ≡ w
  fixed w (atom t) e h = let r : term_under f t ≡ t = cc in fixed-term w t r h
  fixed w (equal s t) e h =
      let a : term_under f s ≡ s = cc in
      let b : term_under f t ≡ t = cc in
      elim (either_of _ _ (sym (among-append w (term_vars s) (term_vars t)) ∙ h)) [ inl k ↦ fixed-term w s a k | inr k ↦ fixed-term w t b k ]
  fixed w (negated p) e h = let r : sent_under f p ≡ p = cc in fixed w p r h
  fixed w (joined c p q) e h =
      let a : sent_under f p ≡ p = cc in
      let b : sent_under f q ≡ q = cc in
      elim (either_of _ _ (sym (among-append w (every_var p) (every_var q)) ∙ h)) [ inl k ↦ fixed w p a k | inr k ↦ fixed w q b k ]
  fixed w (bound k v p) e h =
      let a : var_under f v ≡ v = cc in
      let b : sent_under f p ≡ p = cc in
      elim (either_of (same_var w v) (is_among w (every_var p)) h) [
        | inl s ↦ let q = same_var-true w v s in rw q a
        | inr s ↦ fixed w p b s
      ]

  none_met : (v : Var) (us : List Var) → var_under f v ≡ v → ((w : Var) → is_among w us ≡ true → var_under f w ≡ w) → is_met f v us ≡ false
  none_met v [] a h = refl
  none_met v (u ∷ us) a h =
      let b = h u (or-left _ _ (same_var-refl u)) in
      let r = none_met v us a (λ w e. h w (or-right (same_var w u) (is_among w us) e)) in
      by_cases (same_var v u) (λ t. rw t r) (λ n. let q : same_var (var_under f v) (var_under f u) ≡ false = (λ i. same_var (a i) (b i)) ∙ n in rw (n, q) r)

  left-to : (n : ℕ) (p : Sent) → sent_depth p ≤ n → sent_under f p ≡ p → at_sorts_to n f p ≡ p
  left-to zero p l e = absurd (let k = sent-deep p in omega arith)
  left-to (suc n) (atom t) l e = e
  left-to (suc n) (equal s t) l e = e
  left-to (suc n) (negated p) l e = let a : sent_under f p ≡ p = cc in ap negated (left-to n p (omega arith) a)
  left-to (suc n) (joined c p q) l e =
      let a : sent_under f p ≡ p = cc in
      let b : sent_under f q ≡ q = cc in
      let x = left-to n p (omega arith) a in
      let y = left-to n q (omega arith) b in
      λ i. joined c (x i) (y i)
  left-to (suc n) (bound k v p) l e =
      let a : var_under f v ≡ v = cc in
      let b : sent_under f p ≡ p = cc in
      let m = none_met v (free_vars p) a (λ w h. fixed w p b (free-every w p h)) in
      let x = left-to n p (omega arith) b in
      rw m (λ i. bound k (a i) (x i))

  pub at_sorts-left : (p : Sent) → sent_under f p ≡ p → sent_at_sorts f p ≡ p
  at_sorts-left p e = left-to (sent_depth p) p (omega arith) e
