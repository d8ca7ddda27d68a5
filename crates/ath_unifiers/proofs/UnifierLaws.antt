-- Least unifiers are unique, and every unifier factors through them.
use Rattle.std.proofs.Common.{◌≡◌, ℕ, Bool, true, false, cond, nat_lt, List, [], ◌∷◌, sym, ◌∙◌, ap, arith, inl, inr}
use Rattle.std.proofs.lemmas.Grind.{common_steps}
use Rattle.ath_sorts.specs.declared.sorts.SVar.{SVar}
use Rattle.ath_sorts.specs.declared.sorts.SVar.TheVariants.{Written, Made}
use Rattle.ath_sorts.specs.declared.sorts.Sort.{Sort, Var}
use Rattle.ath_sorts.specs.Sorts.{same_svar, image, apply_to}
use Rattle.ath_unifiers.specs.Unifiers.{Unifies, IsLeastUnifier}
use Rattle.ath_unifiers.specs.Order.{comes_first, precedes, vars_read}
use Rattle.ath_sorts.proofs.SubstitutionLaws.{apply-apply, apply-same, var-from, fixed}

pub factors : (s : List (SVar × Sort)) (pairs : List (Sort × Sort)) (f : SVar → Sort) → IsLeastUnifier s pairs → Unifies f pairs → (v : SVar) → f v ≡ apply_to f (image s v)
factors s pairs f m u v =
    let r = m.most_general f u in
    let g = r.0 in
    r.1 v ∙ ap (apply_to g) (sym (m.idempotent v)) ∙ apply-apply g (image s) (image s v) ∙ sym (apply-same f (λ w. apply_to g (image s w)) (image s v) r.1)

step_apart : (x y : Bool) (p q : Bool) → (p ≡ true → q ≡ true → ⊥) → cond y false (cond x true p) ≡ true → cond x false (cond y true q) ≡ true → ⊥
step_apart true true p q n h k = cc
step_apart true false p q n h k = cc
step_apart false true p q n h k = cc
step_apart false false p q n h k = n h k

comes_first-apart : (vs : List SVar) (a b : SVar) → comes_first vs a b ≡ true → comes_first vs b a ≡ true → ⊥
comes_first-apart [] a b h k = cc
comes_first-apart (v ∷ vs) a b h k = step_apart (same_svar v a) (same_svar v b) (comes_first vs a b) (comes_first vs b a) (comes_first-apart vs a b) h k

less-apart : (m n : ℕ) → nat_lt m n ≡ true → nat_lt n m ≡ true → ⊥
less-apart m n h k = grind (arith, common_steps)

pub precedes-apart : (vs : List SVar) (a b : SVar) → precedes vs a b ≡ true → precedes vs b a ≡ true → ⊥
precedes-apart vs (Written a) (Written b) h k = comes_first-apart vs (Written a) (Written b) h k
precedes-apart vs (Written a) (Made n) h k = cc
precedes-apart vs (Made m) (Written b) h k = cc
precedes-apart vs (Made m) (Made n) h k = less-apart m n h k

module _ (s t : List (SVar × Sort)) (pairs : List (Sort × Sort)) (m : IsLeastUnifier s pairs) (n : IsLeastUnifier t pairs) where
  -- what stands for its class in one stands for it in the other
  same_fixed : (w : SVar) → image s w ≡ Var w → image t w ≡ Var w
  same_fixed w e =
      let r = var-from (image s) (image t w) w (sym (factors t pairs (image s) n m.unifies w) ∙ e) in
      let u = r.0 in
      let same : u ≡ w → image t w ≡ Var w = λ q. r.1.0 ∙ ap Var q in
      elim (n.least w u r.1.0) [
        | inl q ↦ same (sym q)
        | inr p ↦ elim (m.least u w r.1.1) [
          | inl q ↦ same q
          | inr q ↦ absurd (precedes-apart (vars_read pairs) u w p q)
        ]
      ]

  pub agree : (v : SVar) → image s v ≡ image t v
  agree v =
      sym (fixed (image s) (image t) same_fixed (image s v) (m.idempotent v)) ∙ sym (factors s pairs (image t) m n.unifies v)
