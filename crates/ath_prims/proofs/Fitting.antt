-- The walks over the arguments.
use Rattle.std.proofs.Common.{◌≡◌, ℕ, suc, ◌+◌, ◌<◌, ◌≤◌, Bool, true, false, not, ◌&&◌, List, [], ◌∷◌, length, map, drop, get_or, Option, Some, None, refl, sym, ◌∙◌, ap, subst, if◌then◌else◌, add-one, drop-cons, arith}
use Rattle.std.specs.Prelude.{option_map}
use Rattle.std.specs.List.{All}
use Rattle.std.proofs.lemmas.List.{drop_all}
use Rattle.ath_trees.specs.declared.node.SentId.{SentId}
use Rattle.ath_trees.specs.Tree.{Sent}
use Rattle.ath_terms.specs.Trees.{Trees}
use Rattle.ath_prims.specs.declared.applying.Argument.{Argument as Coded}
use Rattle.ath_prims.specs.declared.bindings.Bindings.{Bindings}
use Rattle.ath_prims.specs.declared.schema.Part.TheVariants.{A}
use Rattle.ath_prims.specs.declared.schema.Shape.TheVariants.{Any}
use Rattle.ath_prims.specs.declared.schema.Premise.{Premise}
use Rattle.ath_prims.specs.Applied.{Argument, Parts, fits, Fitted, all_fit, no_sentence, no_shape, fitted, fitted_by, fitted_on, missing}
use Rattle.ath_prims.specs.Stands.{sentence_at, argument_at, arguments_at, parts_at, AreIn, IsFit, IsFound}

drop-at : {A : Type 0} (xs : List A) (k : ℕ) (d : A) → k < length xs → drop k xs ≡ get_or xs k d ∷ drop (k + 1) xs
drop-at xs k d h = rw add-one (drop-cons xs k d h)

abbrev pub a_premise : Premise
a_premise = record { shape = Any A; must_hold = true }

pub not-some : {A : Type 0} (o : Option A) → ((a : A) → o ≡ Some a → ⊥) → o ≡ None
not-some None h = refl
not-some (Some a) h = absurd (h a refl)

module _ (s : Trees) (rs : List Premise) (xs : List Coded) (i : ℕ) (d : Premise) (x : Coded) (below : i < length rs) (inside : i < length xs) where
  -- the arguments from this one on
  here : (e : Parts) → fitted (i + 1) (drop i rs) (arguments_at s (drop i xs)) e ≡ fitted_by (i + 1) (get_or rs i d) (option_map (sentence_at s) (get_or xs i x).sentence) e (fitted (suc (i + 1)) (drop (i + 1) rs) (arguments_at s (drop (i + 1) xs)))
  here e = rw (drop-at rs i d below, drop-at xs i x inside) refl

  pub wrong-kind : (e : Parts) → (get_or xs i x).sentence ≡ None → fitted (i + 1) (drop i rs) (arguments_at s (drop i xs)) e ≡ no_sentence (i + 1)
  wrong-kind e h = here e ∙ rw h refl

  pub this-one : (e : Parts) (p : SentId) → (get_or xs i x).sentence ≡ Some p → fitted (i + 1) (drop i rs) (arguments_at s (drop i xs)) e ≡ fitted_on (i + 1) (fits (get_or rs i d).shape (sentence_at s p) e) (fitted (suc (i + 1)) (drop (i + 1) rs) (arguments_at s (drop (i + 1) xs)))
  this-one e p h = here e ∙ rw h refl

  pub wrong-shape : (e : Parts) (p : SentId) (o : Option Bindings) → (get_or xs i x).sentence ≡ Some p → IsFit s o (fits (get_or rs i d).shape (sentence_at s p) e) → o ≡ None → fitted (i + 1) (drop i rs) (arguments_at s (drop i xs)) e ≡ no_shape (i + 1)
  wrong-shape e p o h fit none = this-one e p h ∙ go (fits (get_or rs i d).shape (sentence_at s p) e) (subst (λ (z : Option Bindings). IsFit s z (fits (get_or rs i d).shape (sentence_at s p) e)) none fit)
    where
      go : (z : Option Parts) → IsFit s None z → fitted_on (i + 1) z (fitted (suc (i + 1)) (drop (i + 1) rs) (arguments_at s (drop (i + 1) xs))) ≡ no_shape (i + 1)
      go None k = refl
      go (Some y) k = absurd k

  pub right-shape : (e : Parts) (p : SentId) (o : Option Bindings) (f : Bindings) → (get_or xs i x).sentence ≡ Some p → IsFit s o (fits (get_or rs i d).shape (sentence_at s p) e) → o ≡ Some f
      → AreIn s f × (fitted (i + 1) (drop i rs) (arguments_at s (drop i xs)) e ≡ fitted ((i + 1) + 1) (drop (i + 1) rs) (arguments_at s (drop (i + 1) xs)) (parts_at s f))
  right-shape e p o f h fit some = go (fits (get_or rs i d).shape (sentence_at s p) e) refl (subst (λ (z : Option Bindings). IsFit s z (fits (get_or rs i d).shape (sentence_at s p) e)) some fit)
    where
      go : (z : Option Parts) → fits (get_or rs i d).shape (sentence_at s p) e ≡ z → IsFit s (Some f) z
          → AreIn s f × (fitted (i + 1) (drop i rs) (arguments_at s (drop i xs)) e ≡ fitted ((i + 1) + 1) (drop (i + 1) rs) (arguments_at s (drop (i + 1) xs)) (parts_at s f))
      go None is k = absurd k
      go (Some y) is k =
          let n : suc (i + 1) ≡ (i + 1) + 1 = omega arith in
          (k.0, this-one e p h ∙ rw is refl ∙ ap (λ (m : ℕ). fitted m (drop (i + 1) rs) (arguments_at s (drop (i + 1) xs)) y) n ∙ ap (fitted ((i + 1) + 1) (drop (i + 1) rs) (arguments_at s (drop (i + 1) xs))) (sym k.1))

pub all-walked : (s : Trees) (rs : List Premise) (xs : List Coded) (i : ℕ) (e : Parts) → length rs ≤ i → length xs ≤ i → fitted (i + 1) (drop i rs) (arguments_at s (drop i xs)) e ≡ all_fit e
all-walked s rs xs i e h k = rw (drop_all i rs h) refl

-- ---- the first that is missing
module _ (s : Trees) (rs : List Premise) (xs : List Coded) (i : ℕ) (d : Premise) (x : Coded) (below : i < length rs) (inside : i < length xs) where
  looked-at : missing (drop i rs) (arguments_at s (drop i xs)) ≡ (if (get_or rs i d).must_hold && not (get_or xs i x).holds then option_map (sentence_at s) (get_or xs i x).sentence else missing (drop (i + 1) rs) (arguments_at s (drop (i + 1) xs)))
  looked-at = rw (drop-at rs i d below, drop-at xs i x inside) refl

  -- by the test of it
  module _ (b : Bool) (same : b ≡ (get_or rs i d).must_hold && not (get_or xs i x).holds) where
    pub is-missing : b ≡ true → missing (drop i rs) (arguments_at s (drop i xs)) ≡ option_map (sentence_at s) (get_or xs i x).sentence
    is-missing h = looked-at ∙ (let t = sym same ∙ h in rw t refl)

    pub is-passed : b ≡ false → missing (drop i rs) (arguments_at s (drop i xs)) ≡ missing (drop (i + 1) rs) (arguments_at s (drop (i + 1) xs))
    is-passed h = looked-at ∙ (let t = sym same ∙ h in rw t refl)

pub none-missing : (s : Trees) (rs : List Premise) (xs : List Coded) (i : ℕ) → length rs ≤ i → missing (drop i rs) (arguments_at s (drop i xs)) ≡ None
none-missing s rs xs i h = rw (drop_all i rs h) refl
