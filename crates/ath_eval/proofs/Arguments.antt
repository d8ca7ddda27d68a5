-- Values as arguments.
use Rattle.std.proofs.Common.{◌≡◌, List, [], ◌∷◌, ◌++◌, length, get_or, refl, ◌∙◌, ap, arith}
use Rattle.std.specs.List.{All}
use Rattle.std.proofs.lemmas.List.Elements.{All-nil, All-head, All-tail, All-cons, All-push}
use Rattle.ath_terms.specs.Trees.{Trees, Grows}
use Rattle.ath_env.specs.declared.value.Value as value
use Rattle.ath_env.specs.declared.value.Value.TheVariants as code
use Rattle.ath_env.specs.Values.{Value}
use Rattle.ath_env.specs.Stands.{IsIn, value_at, IsValue, AreValues}
use Rattle.ath_env.proofs.ValueLaws.{is_in-kept, value_at-kept}
use Rattle.ath_eval.specs.Arguments.{values_at}

module _ (s t : Trees) (g : Grows s t) where
  pub value_grows : (v : value.Value) (x : Value) → IsValue s v x → IsValue t v x
  value_grows v x h = (is_in-kept s t v g h.0, value_at-kept s t v g h.0 ∙ h.1)

  same_values : (vs : List value.Value) → All (IsIn s) vs → values_at t vs ≡ values_at s vs
  same_values [] h = refl
  same_values (v ∷ vs) h = let a = value_at-kept s t v g (All-head (IsIn s) v vs h) in let b = same_values vs (All-tail (IsIn s) v vs h) in λ i. a i ∷ b i

  pub all_in_grow : (vs : List value.Value) → All (IsIn s) vs → All (IsIn t) vs
  all_in_grow [] h = All-nil (IsIn t)
  all_in_grow (v ∷ vs) h = All-cons (IsIn t) v vs (is_in-kept s t v g (All-head (IsIn s) v vs h)) (all_in_grow vs (All-tail (IsIn s) v vs h))

  pub values_grow : (vs : List value.Value) (xs : List Value) → AreValues s vs xs → AreValues t vs xs
  values_grow vs xs h = (all_in_grow vs h.0, same_values vs h.0 ∙ h.1)

module _ (s : Trees) where
  pub values_end : (vs : List value.Value) (v : value.Value) → values_at s (vs ++ v ∷ []) ≡ values_at s vs ++ value_at s v ∷ []
  values_end [] v = refl
  values_end (w ∷ vs) v = ap (λ (xs : List Value). value_at s w ∷ xs) (values_end vs v)

  pub values_push : (vs : List value.Value) (xs : List Value) (v : value.Value) (x : Value) → AreValues s vs xs → IsValue s v x → AreValues s (vs ++ v ∷ []) (xs ++ x ∷ [])
  values_push vs xs v x h k = (All-push (IsIn s) vs v h.0 k.0, values_end vs v ∙ (λ i. h.1 i ++ k.1 i ∷ []))

  pub one_value : (vs : List value.Value) (d : value.Value) → length vs ≡ 1 → values_at s vs ≡ value_at s (get_or vs 0 d) ∷ []
  one_value (v ∷ []) d e = refl
  one_value [] d e = absurd (omega arith)
  one_value (v ∷ w ∷ vs) d e = absurd (omega arith)

  pub two_values : (vs : List value.Value) (d e : value.Value) → length vs ≡ 2 → values_at s vs ≡ value_at s (get_or vs 0 d) ∷ value_at s (get_or vs 1 e) ∷ []
  two_values (v ∷ w ∷ []) d e n = refl
  two_values [] d e n = absurd (omega arith)
  two_values (v ∷ []) d e n = absurd (omega arith)
  two_values (v ∷ w ∷ u ∷ vs) d e n = absurd (omega arith)

-- what stands for an argument that isn't there
abbrev pub no_value : value.Value
no_value = code.Term (record { 0 = 0 })
