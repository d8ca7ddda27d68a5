-- The table of the variables' nodes.
use Rattle.std.proofs.Common.{◌≡◌, ℕ, cond, ◌++◌, ◌∷◌, [], List, length, Some, sym, ◌∙◌, ap, inl, inr}
use Rattle.std.specs.Map.{lookup}
use Rattle.ath_unifiers.specs.declared.nodes.Node.{Node}
use Rattle.ath_unifiers.specs.declared.nodes.Node.TheVariants.{Leaf}
use Rattle.ath_sorts.specs.declared.sorts.SVar.{SVar}
use Rattle.ath_unifiers.specs.Places.{HasPlaces, LeafFree}
use Rattle.ath_sorts.specs.Sorts.{same_svar}
use Rattle.ath_sorts.proofs.Gets.{get-last}
use Rattle.ath_unifiers.proofs.GraphTrees.{leaf-inj}
use Rattle.ath_sorts.proofs.SortLaws.{same_svar-true, same_svar-refl, same-or-not}

module _ (nodes : List Node) (places more : List (SVar × ℕ)) (v : SVar) (h : HasPlaces nodes places) (free : LeafFree nodes v) (filed : (q : SVar) → lookup (same_svar q) more ≡ cond (same_svar v q) (Some (length nodes)) (lookup (same_svar q) places)) where
  -- a variable without a node may be filed
  pub places_kept : HasPlaces nodes more
  places_kept i w k = elim (same-or-not v w) [
    | inl e ↦ absurd (free i (k ∙ ap (λ u. Some (Leaf u)) (sym (same_svar-true v w e))))
    | inr e ↦ filed w ∙ ap (λ b. cond b (Some (length nodes)) (lookup (same_svar w) places)) e ∙ h i w k
  ]

  pub places_more : HasPlaces (nodes ++ Leaf v ∷ []) more
  places_more i w k = elim (get-last nodes (Leaf v) i (Leaf w) k) [
    | inl p ↦ places_kept i w p.1
    | inr p ↦
        let e = leaf-inj v w (ap Some p.1) in
        filed w ∙ ap (λ b. cond b (Some (length nodes)) (lookup (same_svar w) places)) (ap (same_svar v) (sym e) ∙ same_svar-refl v) ∙ ap Some (sym p.0)
  ]
