-- A sentence at other sorts, form by form. Any number of levels from its own on gives the same.
use Rattle.std.proofs.Common.{◌≡◌, ℕ, zero, suc, ◌≤◌, max, refl, ◌∙◌, ap, arith}
use Rattle.ath_sorts.specs.declared.sorts.SVar.{SVar}
use Rattle.ath_sorts.specs.declared.sorts.Sort.{Sort}
use Rattle.ath_trees.specs.declared.node.Binary.{Binary}
use Rattle.ath_trees.specs.Tree.{Term, Sent, atom, equal, negated, joined, bound}
use Rattle.ath_trees.specs.Measure.{term_depth, sent_depth}
use Rattle.ath_trees.specs.Variables.{free_vars}
use Rattle.ath_trees.specs.Occurrences.{every_var, renewed}
use Rattle.ath_trees.specs.Under.{var_under, term_under}
use Rattle.ath_trees.specs.SortUnder.{is_met, at_sorts_to, sent_at_sorts}
use Rattle.ath_trees.specs.Renamed.{renamed}
use Rattle.ath_trees.proofs.Occurring.{by_cases}
use Rattle.ath_trees.proofs.Renaming.{renewed-unused, depth-renamed, sent-deep, subst-renamed}

module _ (f : SVar → Sort) where
  pub at_sorts-levels : (m n : ℕ) (p : Sent) → sent_depth p ≤ m → sent_depth p ≤ n → at_sorts_to m f p ≡ at_sorts_to n f p
  at_sorts-levels zero n p l r = absurd (let d = sent-deep p in omega arith)
  at_sorts-levels (suc m) zero p l r = absurd (let d = sent-deep p in omega arith)
  at_sorts-levels (suc m) (suc n) (atom t) l r = refl
  at_sorts-levels (suc m) (suc n) (equal s t) l r = refl
  at_sorts-levels (suc m) (suc n) (negated p) l r = ap negated (at_sorts-levels m n p (omega arith) (omega arith))
  at_sorts-levels (suc m) (suc n) (joined c p q) l r =
      let a = at_sorts-levels m n p (omega arith) (omega arith) in
      let b = at_sorts-levels m n q (omega arith) (omega arith) in
      λ i. joined c (a i) (b i)
  at_sorts-levels (suc m) (suc n) (bound k v p) l r =
      let new = renewed v (every_var p) in
      let un = renewed-unused v (every_var p) in
      let a = subst-renamed m v new p (omega arith) un in
      let b = subst-renamed n v new p (omega arith) un in
      by_cases (is_met f v (free_vars p))
      (λ t.
      let e = at_sorts-levels m n (renamed v new p) (omega (arith, depth-renamed v new p)) (omega (arith, depth-renamed v new p)) in
      rw (t, a, b) (ap (bound k (var_under f new)) e))
      (λ g. let e = at_sorts-levels m n p (omega arith) (omega arith) in rw g (ap (bound k (var_under f v)) e))

  pub at_sorts-atom : (t : Term) → sent_at_sorts f (atom t) ≡ atom (term_under f t)
  at_sorts-atom t = at_sorts-levels (term_depth t) (suc (term_depth t)) (atom t) (omega arith) (omega arith)

  pub at_sorts-equal : (s t : Term) → sent_at_sorts f (equal s t) ≡ equal (term_under f s) (term_under f t)
  at_sorts-equal s t = at_sorts-levels (sent_depth (equal s t)) (suc (sent_depth (equal s t))) (equal s t) (omega arith) (omega arith)

  pub at_sorts-negated : (p : Sent) → sent_at_sorts f (negated p) ≡ negated (sent_at_sorts f p)
  at_sorts-negated p = at_sorts-levels (sent_depth (negated p)) (suc (sent_depth p)) (negated p) (omega arith) (omega arith)

  pub at_sorts-joined : (c : Binary) (p q : Sent) → sent_at_sorts f (joined c p q) ≡ joined c (sent_at_sorts f p) (sent_at_sorts f q)
  at_sorts-joined c p q =
      let l = max (sent_depth p) (sent_depth q) in
      let a = at_sorts-levels l (sent_depth p) p (omega arith) (omega arith) in
      let b = at_sorts-levels l (sent_depth q) q (omega arith) (omega arith) in
      at_sorts-levels (sent_depth (joined c p q)) (suc l) (joined c p q) (omega arith) (omega arith) ∙ (λ i. joined c (a i) (b i))
