-- What a loop keeps that takes a list of trees from its end and numbers each.
use Rattle.std.proofs.Common.{◌≡◌, ℕ, ◌≤◌, List, [], ◌∷◌, ◌++◌, reverse, sym, ap, ◌∙◌, subst, arith}
use Rattle.std.proofs.lemmas.List.{append-nil, append_assoc, reverse-append}
use denote.Param.Weighed.{most, most-append}
use Rattle.ath_syntax.specs.Nodes.{Nodes, KeepsNodes}
use Rattle.ath_syntax.proofs.Growth.{KeepsNodes-refl, KeepsNodes-trans}

-- how the numbers of a list stand for its trees
pub record Listing (A B : Type 0) : Type 1 where
  pub One : Nodes → B → A → Type 0
  pub Each : Nodes → List B → List A → Type 0
  pub none : (s : Nodes) → Each s [] []
  pub more : (s : Nodes) (b : B) (bs : List B) (a : A) (trees : List A) → One s b a → Each s bs trees → Each s (b ∷ bs) (a ∷ trees)
  pub keep : (old new : Nodes) → KeepsNodes old new → (bs : List B) (trees : List A) → Each old bs trees → Each new bs trees

-- the numbers, the last first, stand for those trees that were taken from the end
pub record Taken {A B : Type 0} (listing : Listing A B) (old now : Nodes) (all rest : List A) (numbers : List B) : Type 0 where
  pub taken : List A
  pub split : all ≡ rest ++ taken
  pub stand : listing.Each now (reverse numbers) taken
  pub grows : KeepsNodes old now

module _ {A B : Type 0} (listing : Listing A B) where
  pub Taken-none : (s : Nodes) (all : List A) → Taken listing s s all all []
  Taken-none s all = record { taken = []; split = sym (append-nil all); stand = listing.none s; grows = KeepsNodes-refl s }

  pub Taken-more : (old now new : Nodes) (all rest fewer : List A) (numbers : List B) (a : A) (b : B) → Taken listing old now all rest numbers → rest ≡ fewer ++ a ∷ [] → KeepsNodes now new → listing.One new b a → Taken listing old new all fewer (numbers ++ b ∷ [])
  Taken-more old now new all rest fewer numbers a b t e g h = record {
    taken = a ∷ t.taken;
    split = t.split ∙ ap (λ xs. xs ++ t.taken) e ∙ append_assoc fewer (a ∷ []) t.taken;
    stand = subst (λ bs. listing.Each new bs (a ∷ t.taken)) (sym (reverse-append numbers (b ∷ []))) (listing.more new b (reverse numbers) a t.taken h (listing.keep now new g (reverse numbers) t.taken t.stand));
    grows = KeepsNodes-trans t.grows g;
  }

  pub Taken-all : (old now : Nodes) (all rest : List A) (numbers : List B) → Taken listing old now all rest numbers → rest ≡ [] → listing.Each now (reverse numbers) all
  Taken-all old now all rest numbers t e = subst (listing.Each now (reverse numbers)) (sym (t.split ∙ ap (λ xs. xs ++ t.taken) e)) t.stand

  -- what is taken next is a part of the whole
  pub Taken-split : (old now : Nodes) (all rest fewer : List A) (numbers : List B) (a : A) (t : Taken listing old now all rest numbers) → rest ≡ fewer ++ a ∷ [] → all ≡ fewer ++ a ∷ t.taken
  Taken-split old now all rest fewer numbers a t e = t.split ∙ ap (λ xs. xs ++ t.taken) e ∙ append_assoc fewer (a ∷ []) t.taken

  pub Taken-smaller : (μ : A → ℕ) (old now : Nodes) (all rest fewer : List A) (numbers : List B) (a : A) → Taken listing old now all rest numbers → rest ≡ fewer ++ a ∷ [] → μ a ≤ most μ all
  Taken-smaller μ old now all rest fewer numbers a t e =
      let split : most μ all ≡ _ = ap (most μ) (Taken-split old now all rest fewer numbers a t e) ∙ most-append μ fewer (a ∷ t.taken) in
      omega (arith, split)
