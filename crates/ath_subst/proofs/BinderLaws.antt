-- A binder with its body, before and after other sorts.
use Rattle.std.proofs.Common.{◌≡◌, ℕ, ◌+◌, ◌<◌, true, false, refl, sym, ◌∙◌, ap, subst, arith}
use Rattle.ath_sorts.specs.declared.sorts.SVar.{SVar}
use Rattle.ath_sorts.specs.declared.sorts.Sort.{Sort}
use Rattle.ath_sorts.specs.Signature.{Signature}
use Rattle.ath_trees.specs.declared.node.Var.{Var}
use Rattle.ath_trees.specs.declared.node.Quant.{Quant}
use Rattle.ath_trees.specs.declared.node.SentId.{SentId}
use Rattle.ath_trees.specs.Tree.{Sent, var, bound}
use Rattle.ath_trees.specs.Measure.{sent_depth}
use Rattle.ath_trees.specs.Occurrences.{every_var, renewed}
use Rattle.ath_trees.specs.Renamed.{renamed}
use Rattle.ath_trees.specs.SortUnder.{is_met, sent_at_sorts}
use Rattle.ath_trees.specs.Under.{var_under}
use Rattle.ath_trees.specs.Variables.{free_vars}
use Rattle.ath_trees.specs.WellSorted.{is_valid_sort, HasSort, var_has, IsWellSorted}
use Rattle.ath_terms.specs.Trees.{Trees, sent_at, IsSent}
use Rattle.ath_subst.specs.Binders.{binder_at, body_at}
use Rattle.ath_trees.proofs.Occurring.{by_cases}
use Rattle.ath_trees.proofs.Renaming.{depth-renamed}
use Rattle.ath_trees.proofs.BinderLaws.{at_sorts-met, at_sorts-unmet}
use Rattle.ath_subst.proofs.SentLaws.{IsBound}

module _ (f : SVar → Sort) where
  -- the two ways
  pub met-binder : (v : Var) (p : Sent) → is_met f v (free_vars p) ≡ true → (binder_at f v p ≡ renewed v (every_var p)) × (body_at f v p ≡ renamed v (renewed v (every_var p)) p)
  met-binder v p t = rw t (refl, refl)

  pub unmet-binder : (v : Var) (p : Sent) → is_met f v (free_vars p) ≡ false → (binder_at f v p ≡ v) × (body_at f v p ≡ p)
  unmet-binder v p t = rw t (refl, refl)

  pub binder-sort : (v : Var) (p : Sent) → (binder_at f v p).sort ≡ v.sort
  binder-sort v p = by_cases (is_met f v (free_vars p)) (λ t. rw t refl) (λ n. rw n refl)

  pub at_sorts-bound : (k : Quant) (v : Var) (p : Sent) → sent_at_sorts f (bound k v p) ≡ bound k (var_under f (binder_at f v p)) (sent_at_sorts f (body_at f v p))
  at_sorts-bound k v p = by_cases (is_met f v (free_vars p))
      (λ t. let m = met-binder v p t in at_sorts-met f k v p t ∙ (λ i. bound k (var_under f (sym m.0 i)) (sent_at_sorts f (sym m.1 i))))
      (λ n. let m = unmet-binder v p n in at_sorts-unmet f k v p n ∙ (λ i. bound k (var_under f (sym m.0 i)) (sent_at_sorts f (sym m.1 i))))

  pub body-deep : (v : Var) (p : Sent) → sent_depth (body_at f v p) ≡ sent_depth p
  body-deep v p = by_cases (is_met f v (free_vars p))
      (λ t. ap sent_depth (met-binder v p t).1 ∙ depth-renamed v (renewed v (every_var p)) p)
      (λ n. ap sent_depth (unmet-binder v p n).1)

-- the term of a variable
pub copy-has : (sig : Signature) (copy v : Var) (r : Sort) → copy ≡ v → r ≡ v.sort → is_valid_sort sig v.sort ≡ true → HasSort sig (var copy) r
copy-has sig copy v r e q valid = rw (e, q) (var_has valid refl)

module _ (f : SVar → Sort) (old : Trees) (p : ℕ) (k : Quant) (v : Var) (q : SentId) (is : IsBound old p k v q) where
  pub body-falls : (u : Trees) (b : ℕ) → IsSent u b (body_at f v (sent_at old.sents q.0)) → sent_depth (sent_at u.sents b) < sent_depth (sent_at old.sents p)
  body-falls u b w =
      let d : sent_depth (sent_at u.sents b) ≡ sent_depth (sent_at old.sents q.0) = ap sent_depth w.1 ∙ body-deep f v (sent_at old.sents q.0) in
      let r : sent_depth (sent_at old.sents p) ≡ 1 + sent_depth (sent_at old.sents q.0) = ap sent_depth is.tree in
      omega arith

  pub bound-tree : (mid new : Trees) (w x : Var) (b inner : ℕ) → w ≡ binder_at f v (sent_at old.sents q.0) → IsSent mid b (body_at f v (sent_at old.sents q.0)) → x ≡ var_under f w → IsSent new inner (sent_at_sorts f (sent_at mid.sents b))
      → bound k x (sent_at new.sents inner) ≡ sent_at_sorts f (sent_at old.sents p)
  bound-tree mid new w x b inner e h i j =
      let y = i ∙ ap (var_under f) e in
      let z = j.1 ∙ ap (sent_at_sorts f) h.1 in
      (λ n. bound k (y n) (z n)) ∙ sym (at_sorts-bound f k v (sent_at old.sents q.0)) ∙ ap (sent_at_sorts f) (sym is.tree)

pub bound-valid : (sig : Signature) (old : Trees) (p : ℕ) (k : Quant) (v : Var) (q : SentId) → IsBound old p k v q → IsWellSorted sig (sent_at old.sents p) → is_valid_sort sig v.sort ≡ true
bound-valid sig old p k v q is h = (subst (IsWellSorted sig) is.tree h).0
