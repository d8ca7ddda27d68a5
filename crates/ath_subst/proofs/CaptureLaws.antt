-- Binders over a body into which a term is put.
use Rattle.std.proofs.Common.{◌≡◌, ℕ, ◌+◌, ◌<◌, ◌&&◌, Bool, true, false, not, [], length, refl, sym, ◌∙◌, ap, subst, arith}
use Rattle.ath_sorts.specs.declared.sorts.Sort.{Sort}
use Rattle.ath_sorts.specs.Signature.{Signature}
use Rattle.ath_sorts.proofs.Bools.{or_parts}
use Rattle.ath_trees.specs.declared.node.Var.{Var}
use Rattle.ath_trees.specs.declared.node.Quant.{Quant}
use Rattle.ath_trees.specs.declared.node.SentId.{SentId}
use Rattle.ath_trees.specs.Measure.{sent_size, sent_depth, IsSmall}
use Rattle.ath_trees.specs.Occurrences.{is_among, is_named}
use Rattle.ath_trees.specs.Renamed.{renamed}
use Rattle.ath_trees.specs.Substitution.{other, subst_term, subst_sent}
use Rattle.ath_trees.specs.Tree.{Term, Sent, bound}
use Rattle.ath_trees.specs.Variables.{same_var, term_vars, free_vars}
use Rattle.ath_trees.specs.Groups.{may_have}
use Rattle.ath_trees.proofs.Occurring.{by_cases}
use Rattle.ath_trees.proofs.Renaming.{depth-renamed}
use Rattle.ath_trees.proofs.SubstForms.{subst-shadowed, subst-bare, subst-plain, subst-captured}
use Rattle.ath_trees.specs.WellSorted.{HasSort}
use Rattle.ath_terms.specs.declared.marks.Marks.{Marks}
use Rattle.ath_terms.specs.Marks.{IsTermMarked, IsSentMarked}
use Rattle.ath_terms.specs.SortsIn.{IsSortedIn}
use Rattle.ath_terms.specs.Trees.{Trees, term_at, sort_at, sent_at, IsTerm, IsSent}
use Rattle.ath_subst.specs.Captures.{is_left, binder_for, body_for}
use Rattle.ath_subst.proofs.SentLaws.{IsBound}

module _ (x : Var) (by : Term) (v : Var) (p : Sent) where
  pub named-binder : is_named v (term_vars by) ≡ true → (binder_for by v p ≡ other v by p) × (body_for by v p ≡ renamed v (other v by p) p)
  named-binder t = rw t (refl, refl)

  pub unnamed-binder : is_named v (term_vars by) ≡ false → (binder_for by v p ≡ v) × (body_for by v p ≡ p)
  unnamed-binder t = rw t (refl, refl)

  pub body-deep : sent_depth (body_for by v p) ≡ sent_depth p
  body-deep = by_cases (is_named v (term_vars by)) (λ t. ap sent_depth (named-binder t).1 ∙ depth-renamed v (other v by p) p) (λ n. ap sent_depth (unnamed-binder n).1)

  left-by : (b : Bool) → (b && not (is_among x (free_vars p))) ≡ true → is_among x (free_vars p) ≡ false
  left-by true h = not-false (is_among x (free_vars p)) h
    where
      not-false : (b : Bool) → not b ≡ true → b ≡ false
      not-false true e = absurd (cc)
      not-false false e = refl
  left-by false h = absurd (cc)

  pub subst-left : (k : Quant) → is_left x by v p ≡ true → subst_sent x by (bound k v p) ≡ bound k v p
  subst-left k h = by_cases (same_var x v)
      (λ s. subst-shadowed x by k v p s)
      (λ d. subst-bare x by k v p (left-by (is_named v (term_vars by)) (rw d at h)))

  free-by : (a : Bool) → (true && not a) ≡ false → a ≡ true
  free-by true h = refl
  free-by false h = absurd (cc)

  pub subst-open : (k : Quant) → is_left x by v p ≡ false → subst_sent x by (bound k v p) ≡ bound k (binder_for by v p) (subst_sent x by (body_for by v p))
  subst-open k h =
      let m = or_parts (same_var x v) (is_named v (term_vars by) && not (is_among x (free_vars p))) h in
      by_cases (is_named v (term_vars by))
      (λ u. let e = named-binder u in subst-captured x by k v p m.0 (free-by (is_among x (free_vars p)) (rw u at m.1)) u ∙ (λ i. bound k (sym e.0 i) (subst_sent x by (sym e.1 i))))
      (λ n. let e = unnamed-binder n in subst-plain x by k v p m.0 n ∙ (λ i. bound k (sym e.0 i) (subst_sent x by (sym e.1 i))))

module _ (x : Var) (by : Term) (old : Trees) (p : ℕ) (k : Quant) (v : Var) (q : SentId) (is : IsBound old p k v q) where
  pub left-tree : is_left x by v (sent_at old.sents q.0) ≡ true → sent_at old.sents p ≡ subst_sent x by (sent_at old.sents p)
  left-tree h = is.tree ∙ sym (subst-left x by v (sent_at old.sents q.0) k h) ∙ ap (subst_sent x by) (sym is.tree)

  pub open-falls : (u : Trees) (b : ℕ) → IsSent u b (body_for by v (sent_at old.sents q.0)) → sent_depth (sent_at u.sents b) < sent_depth (sent_at old.sents p)
  open-falls u b w =
      let d : sent_depth (sent_at u.sents b) ≡ sent_depth (sent_at old.sents q.0) = ap sent_depth w.1 ∙ body-deep x by v (sent_at old.sents q.0) in
      let r : sent_depth (sent_at old.sents p) ≡ 1 + sent_depth (sent_at old.sents q.0) = ap sent_depth is.tree in
      omega arith

  whole : is_left x by v (sent_at old.sents q.0) ≡ false → subst_sent x by (sent_at old.sents p) ≡ bound k (binder_for by v (sent_at old.sents q.0)) (subst_sent x by (body_for by v (sent_at old.sents q.0)))
  whole h = ap (subst_sent x by) is.tree ∙ subst-open x by v (sent_at old.sents q.0) k h

  pub open-small : (u : Trees) (b : ℕ) (c : Term) → is_left x by v (sent_at old.sents q.0) ≡ false → IsSmall (subst_sent x by (sent_at old.sents p)) → c ≡ by → IsSent u b (body_for by v (sent_at old.sents q.0)) → IsSmall (subst_sent x c (sent_at u.sents b))
  open-small u b c h m e w =
      let y = ap sent_size (whole h) in
      let z = ap sent_depth (whole h) in
      rw (e, w.1) (record { nodes = omega (arith, m.nodes, y); levels = omega (arith, m.levels, z) })

  pub open-tree : (mid new : Trees) (w : Var) (b inner : ℕ) (c : Term) → is_left x by v (sent_at old.sents q.0) ≡ false → w ≡ binder_for by v (sent_at old.sents q.0) → IsSent mid b (body_for by v (sent_at old.sents q.0)) → c ≡ by → IsSent new inner (subst_sent x c (sent_at mid.sents b))
      → bound k w (sent_at new.sents inner) ≡ subst_sent x by (sent_at old.sents p)
  open-tree mid new w b inner c h e i f j =
      let z = j.1 ∙ (λ n. subst_sent x (f n) (i.1 n)) in
      (λ n. bound k (e n) (z n)) ∙ sym (whole h)

pub small-as : (p q : Sent) → p ≡ q → IsSmall p → IsSmall q
small-as p q e h = subst IsSmall e h

-- at a store that has grown the term that is put is the same
pub same-put : (u : Trees) (r : ℕ) (x : Var) (c by : Term) (t : Term) → c ≡ by → IsTerm u r (subst_term x c t) → IsTerm u r (subst_term x by t)
same-put u r x c by t e w = (w.0, w.1 ∙ ap (λ b. subst_term x b t) e)

pub same-put-sent : (u : Trees) (r : ℕ) (x : Var) (c by : Term) (p : Sent) → c ≡ by → IsSent u r (subst_sent x c p) → IsSent u r (subst_sent x by p)
same-put-sent u r x c by p e w = (w.0, w.1 ∙ ap (λ b. subst_sent x b p) e)

pub fit-has : (sig : Signature) (s : Trees) (by : ℕ) (r : Sort) → IsSortedIn sig s → by < length s.terms → sort_at s.sorts by ≡ r → HasSort sig (term_at s.terms by) r
fit-has sig s by r h l e = subst (HasSort sig (term_at s.terms by)) e (h.terms by l)

-- ---- what the marks of a tree tell to be absent
pub not-set : (b : Bool) → not b ≡ true → b ≡ false
not-set true e = absurd (cc)
not-set false e = refl

module _ (s : Trees) (m : Marks) (x : Var) (b : Bool) (is : b ≡ may_have m.groups x) (none : not b ≡ true) where
  lacking : may_have m.groups x ≡ false
  lacking = sym is ∙ not-set b none

  pub term-unnamed : (t : ℕ) → IsTermMarked s t m → is_named x (term_vars (term_at s.terms t)) ≡ false
  term-unnamed t h = h.tree.lacks x lacking []

  pub sent-unnamed : (p : ℕ) → IsSentMarked s (sent_at s.sents p) m → is_named x (free_vars (sent_at s.sents p)) ≡ false
  sent-unnamed p h = h.lacks x lacking []
