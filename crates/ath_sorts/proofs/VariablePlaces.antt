-- Tables by variables.
use Rattle.std.proofs.Common.{◌≡◌, ℕ, Bool, cond, refl, ◌∷◌, [], List, Some, sym, ◌∙◌}
use Rattle.std.specs.Map.{lookup}
use Rattle.ath_sorts.specs.contracts.sorts.SVarPartialEq.TheImpl as derived
use Rattle.ath_sorts.specs.declared.sorts.SVar.{SVar}
use Rattle.ath_sorts.specs.declared.sorts.SVar.TheVariants.{Written, Made}
use Rattle.ath_sorts.specs.Sorts.{same_svar}

-- the table finds variables by the equality that is derived
derived_same : (a b : SVar) → derived.ghosts.eq a b ≡ same_svar a b
derived_same (Written a) (Written b) = refl
derived_same (Written a) (Made n) = refl
derived_same (Made m) (Written b) = refl
derived_same (Made m) (Made n) = refl

lookup_same : {X : Type 0} (t u : SVar → Bool) (es : List (SVar × X)) → ((k : SVar) → t k ≡ u k) → lookup t es ≡ lookup u es
lookup_same t u [] e = refl
lookup_same t u (x ∷ es) e = λ i. cond (e x.0 i) (Some x.1) (lookup_same t u es e i)

pub filed_at : (places more : List (SVar × ℕ)) (v : SVar) (at n : ℕ) → ((q : SVar) → lookup (derived.ghosts.eq q) more ≡ cond (derived.ghosts.eq v q) (Some at) (lookup (derived.ghosts.eq q) places)) → at ≡ n → (q : SVar) → lookup (same_svar q) more ≡ cond (same_svar v q) (Some n) (lookup (same_svar q) places)
filed_at places more v at n h e q =
    sym (lookup_same (derived.ghosts.eq q) (same_svar q) more (derived_same q)) ∙ h q
    ∙ (λ i. cond (derived_same v q i) (Some (e i)) (lookup_same (derived.ghosts.eq q) (same_svar q) places (derived_same q) i))

pub looked_up : (places : List (SVar × ℕ)) (v : SVar) → lookup (same_svar v) places ≡ lookup (derived.ghosts.eq v) places
looked_up places v = sym (lookup_same (derived.ghosts.eq v) (same_svar v) places (derived_same v))
