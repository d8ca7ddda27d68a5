-- Applications and calls with a wrong number of arguments.
use Rattle.std.proofs.Common.{◌≡◌, ◌==◌, ℕ, Bool, true, false, List, [], ◌∷◌, length, refl, sym, ◌∙◌, subst, arith}
use Rattle.std.proofs.lemmas.Grind.{common_steps}
use Rattle.ath_sorts.proofs.Bools.{true-not-false}
use Rattle.ath_sorts.specs.Signature.{Signature}
use Rattle.ath_syntax.specs.declared.place.Pos.{Pos}
use Rattle.ath_base.specs.Base.{Entry}
use Rattle.ath_terms.specs.Trees.{Trees}
use Rattle.ath_env.specs.declared.value.Value as value
use Rattle.ath_env.specs.Stands.{value_at}
use Rattle.ath_env.specs.Values.{Value}
use Rattle.ath_print.specs.declared.fault.FaultKind.TheVariants.{ArgCount, NotApplicable}
use Rattle.ath_print.specs.Events.{number_named}
use Rattle.ath_eval.specs.Applying.{miscounted, equated, itself}
use Rattle.ath_eval.specs.Arguments.{values_at}
use Rattle.ath_eval.specs.Methods.{claimed, ponens}
use Rattle.ath_eval.specs.Outcomes.{Left, Outcome, gives, fails, refusal}
use Rattle.ath_eval.specs.World.{IsSteady}
use Rattle.ath_eval.specs.declared.world.Outcome as outcome
use Rattle.ath_eval.proofs.KindLaws.{length_map}

-- what is done with as many values as are wanted, and is refused with others
abbrev IsCounted : ℕ → (List Value → Pos → Left → Outcome) → Type 0
IsCounted want f = (xs : List Value) → (length xs ≡ want → ⊥) → f xs ≡ miscounted want xs

claimed_counts : (base : List Entry) → IsCounted 1 (claimed base)
claimed_counts base [] h = refl
claimed_counts base (x ∷ []) h = absurd (h (omega arith))
claimed_counts base (x ∷ y ∷ xs) h = refl

ponens_counts : (base : List Entry) → IsCounted 2 (ponens base)
ponens_counts base [] h = refl
ponens_counts base (x ∷ []) h = refl
ponens_counts base (x ∷ y ∷ []) h = absurd (h (omega arith))
ponens_counts base (x ∷ y ∷ z ∷ xs) h = refl

equated_counts : (sig : Signature) → IsCounted 2 (equated sig)
equated_counts sig [] h = refl
equated_counts sig (x ∷ []) h = refl
equated_counts sig (x ∷ y ∷ []) h = absurd (h (omega arith))
equated_counts sig (x ∷ y ∷ z ∷ xs) h = refl

module _ (s t : Trees) (vs : List value.Value) (at : Pos) (o : outcome.Outcome) where
  -- the refusal of so many values
  abbrev IsMiscounted : ℕ → Type 0
  IsMiscounted want = IsSteady t o (fails at (refusal ArgCount (number_named want ∷ number_named (length vs) ∷ [])))

  counted : (want : ℕ) (f : List Value → Pos → Left → Outcome) → IsCounted want f → (length vs ≡ want → ⊥) → IsMiscounted want → IsSteady t o (f (values_at s vs) at)
  counted want f c n h =
      let l = length_map (value_at s) vs in
      subst (λ (g : Pos → Left → Outcome). IsSteady t o (g at)) (sym (c (values_at s vs) (λ e. n (sym l ∙ e))))
      (subst (λ (m : ℕ). IsSteady t o (fails at (refusal ArgCount (number_named want ∷ number_named m ∷ [])))) (sym l) h)

  pub claimed_wrong : (base : List Entry) → (length vs ≡ 1 → ⊥) → IsMiscounted 1 → IsSteady t o (claimed base (values_at s vs) at)
  claimed_wrong base n h = counted 1 (claimed base) (claimed_counts base) n h

  pub ponens_wrong : (base : List Entry) → (length vs ≡ 2 → ⊥) → IsMiscounted 2 → IsSteady t o (ponens base (values_at s vs) at)
  ponens_wrong base n h = counted 2 (ponens base) (ponens_counts base) n h

  pub equated_wrong : (sig : Signature) → (length vs ≡ 2 → ⊥) → IsMiscounted 2 → IsSteady t o (equated sig (values_at s vs) at)
  equated_wrong sig n h = counted 2 (equated sig) (equated_counts sig) n h

-- a term or a sentence that is given arguments
pub not_itself : (s : Trees) (vs : List value.Value) (v : Value) (at : Pos) (o : outcome.Outcome) (b : Bool) → b ≡ (length vs == 0) → b ≡ false → IsSteady s o (fails at (refusal NotApplicable [])) → IsSteady s o (itself v (values_at s vs) at)
not_itself s [] v at o b e f h = absurd (true-not-false (sym e ∙ f))
not_itself s (w ∷ vs) v at o b e f h = h

counts_none : (n : ℕ) → (n == 0) ≡ true → n ≡ 0
counts_none n e = grind (arith, common_steps)

-- one that is given none
pub is_itself : (s : Trees) (vs : List value.Value) (v : Value) (at : Pos) (o : outcome.Outcome) (b : Bool) → b ≡ (length vs == 0) → b ≡ true → IsSteady s o (gives v) → IsSteady s o (itself v (values_at s vs) at)
is_itself s [] v at o b e f h = h
is_itself s (w ∷ vs) v at o b e f h = let n : length (w ∷ vs) ≡ 0 = counts_none (length (w ∷ vs)) (sym e ∙ f) in absurd (omega (arith, n))
