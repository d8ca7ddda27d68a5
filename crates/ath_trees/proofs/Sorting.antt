-- Substitution, sorts under binders and closing keep sentences well-sorted.
use Rattle.std.proofs.Common.{◌≡◌, ℕ, zero, suc, ◌≤◌, Bool, true, false, List, refl, sym, ◌∙◌, ap, subst, arith}
use Rattle.std.specs.Prelude.{if◌then◌else◌}
use Rattle.ath_sorts.specs.declared.sorts.SVar.{SVar}
use Rattle.ath_sorts.specs.declared.sorts.Sort.{Sort}
use Rattle.ath_sorts.specs.Signature.{Signature}
use Rattle.ath_sorts.specs.Validity.{IsValid}
use Rattle.ath_trees.specs.declared.node.Var.{Var}
use Rattle.ath_trees.specs.declared.node.Quant.{Quant}
use Rattle.ath_trees.specs.Tree.{Term, Terms, var, app, none, more, Sent, atom, equal, negated, joined, bound}
use Rattle.ath_trees.specs.Measure.{sent_depth}
use Rattle.ath_trees.specs.Variables.{same_var, term_vars, free_vars}
use Rattle.ath_trees.specs.Occurrences.{is_among, is_named, every_var, renewed}
use Rattle.ath_trees.specs.Under.{var_under}
use Rattle.ath_trees.specs.Substitution.{subst_term, subst_terms, other, subst_to, subst_sent}
use Rattle.ath_trees.specs.Renamed.{renamed}
use Rattle.ath_trees.specs.SortUnder.{is_met, at_sorts_to, sent_at_sorts}
use Rattle.ath_trees.specs.Closing.{closing, closed_over}
use Rattle.ath_trees.specs.WellSorted.{is_valid_sort, HasSort, var_has, app_has, HaveSorts, none_has, more_has, IsWellSorted}
use Rattle.ath_trees.proofs.Occurring.{by_cases, same_var-true}
use Rattle.ath_trees.proofs.Renaming.{renewed-unused, depth-renamed, sent-deep, subst-renamed}
use Rattle.ath_trees.proofs.UnderLaws.{well_sorted-under}
use Rattle.ath_trees.proofs.ValidSorts.{valid_under}

either : (sig : Signature) (b : Bool) (p q : Sent) → IsWellSorted sig p → IsWellSorted sig q → IsWellSorted sig (if b then p else q)
either sig true p q h k = h
either sig false p q h k = k

module _ (sig : Signature) where
  mutual
    pub has_sort-put : (x : Var) (by t : Term) (s : Sort) → HasSort sig by x.sort → HasSort sig t s → HasSort sig (subst_term x by t) s
    has_sort-put x by (var v) s h (var_has e f) = by_cases (same_var x v)
        (λ t. let p = same_var-true x v t in rw t (subst (HasSort sig by) (ap (λ (u : Var). u.sort) p ∙ sym f) h))
        (λ n. rw n (var_has e f))
    has_sort-put x by (app f ss ts) s h (app_has d e l v a r) = app_has d e l v (have_sorts-put x by ts _ h a) r

    have_sorts-put : (x : Var) (by : Term) (ts : Terms) (ss : List Sort) → HasSort sig by x.sort → HaveSorts sig ts ss → HaveSorts sig (subst_terms x by ts) ss
    have_sorts-put x by none ss h none_has = none_has
    have_sorts-put x by (more t ts) ss h (more_has a b) = more_has (has_sort-put x by t _ h a) (have_sorts-put x by ts _ h b)

  pub renamed-sorted : (y z : Var) (p : Sent) → HasSort sig (var z) y.sort → IsWellSorted sig p → IsWellSorted sig (renamed y z p)
  renamed-sorted y z (atom t) h w = has_sort-put y (var z) t _ h w
  renamed-sorted y z (equal s t) h w = (w.0, (has_sort-put y (var z) s w.0 h w.1.0, has_sort-put y (var z) t w.0 h w.1.1))
  renamed-sorted y z (negated p) h w = renamed-sorted y z p h w
  renamed-sorted y z (joined c p q) h w = (renamed-sorted y z p h w.0, renamed-sorted y z q h w.1)
  renamed-sorted y z (bound k v p) h w = either sig (same_var y v) (bound k v p) (bound k v (renamed y z p)) w (w.0, renamed-sorted y z p h w.1)

  put-sorted : (n : ℕ) (x : Var) (by : Term) (p : Sent) → HasSort sig by x.sort → IsWellSorted sig p → IsWellSorted sig (subst_to n x by p)
  put-sorted zero x by p h w = w
  put-sorted (suc n) x by (atom t) h w = has_sort-put x by t _ h w
  put-sorted (suc n) x by (equal s t) h w = (w.0, (has_sort-put x by s w.0 h w.1.0, has_sort-put x by t w.0 h w.1.1))
  put-sorted (suc n) x by (negated p) h w = put-sorted n x by p h w
  put-sorted (suc n) x by (joined c p q) h w = (put-sorted n x by p h w.0, put-sorted n x by q h w.1)
  put-sorted (suc n) x by (bound k v p) h w =
      let new = other v by p in
      let inner = subst_to n v (var new) p in
      let i = put-sorted n v (var new) p (var_has w.0 refl) w.1 in
      either sig (is_among x (free_vars (bound k v p))) (if is_named v (term_vars by) then bound k new (subst_to n x by inner) else bound k v (subst_to n x by p)) (bound k v p)
      (either sig (is_named v (term_vars by)) (bound k new (subst_to n x by inner)) (bound k v (subst_to n x by p)) (w.0, put-sorted n x by inner h i) (w.0, put-sorted n x by p h w.1))
      w

  pub subst-sorted : (x : Var) (by : Term) (p : Sent) → HasSort sig by x.sort → IsWellSorted sig p → IsWellSorted sig (subst_sent x by p)
  subst-sorted x by p h w = put-sorted (sent_depth p) x by p h w

  pub closed-sorted : (k : Quant) (x : Var) (p : Sent) → is_valid_sort sig x.sort ≡ true → IsWellSorted sig p → IsWellSorted sig (closed_over k x p)
  closed-sorted k x p v w = (v, subst-sorted x (var (closing x p)) p (var_has v refl) w)

  module _ (valid : IsValid sig) (f : SVar → Sort) (ok : (v : SVar) → is_valid_sort sig (f v) ≡ true) where
    moved-sorted : (n : ℕ) (p : Sent) → sent_depth p ≤ n → IsWellSorted sig p → IsWellSorted sig (at_sorts_to n f p)
    moved-sorted zero p l w = absurd (let d = sent-deep p in omega arith)
    moved-sorted (suc n) (atom t) l w = well_sorted-under sig valid f ok (atom t) w
    moved-sorted (suc n) (equal s t) l w = well_sorted-under sig valid f ok (equal s t) w
    moved-sorted (suc n) (negated p) l w = moved-sorted n p (omega arith) w
    moved-sorted (suc n) (joined c p q) l w = (moved-sorted n p (omega arith) w.0, moved-sorted n q (omega arith) w.1)
    moved-sorted (suc n) (bound k v p) l w =
        let new = renewed v (every_var p) in
        let un = renewed-unused v (every_var p) in
        let inner = subst_to n v (var new) p in
        let d : sent_depth inner ≤ n = rw (subst-renamed n v new p (omega arith) un, depth-renamed v new p) (omega arith) in
        let i = put-sorted n v (var new) p (var_has w.0 refl) w.1 in
        either sig (is_met f v (free_vars p)) (bound k (var_under f new) (at_sorts_to n f inner)) (bound k (var_under f v) (at_sorts_to n f p))
        (valid_under sig f ok v.sort w.0, moved-sorted n inner d i) (valid_under sig f ok v.sort w.0, moved-sorted n p (omega arith) w.1)

    pub at_sorts-sorted : (p : Sent) → IsWellSorted sig p → IsWellSorted sig (sent_at_sorts f p)
    at_sorts-sorted p w = moved-sorted (sent_depth p) p (omega arith) w
