-- Applications of quantifiers.
use Rattle.std.proofs.Common.{◌≡◌, ℕ, ◌+◌, ◌-◌, ◌<◌, ◌≤◌, ◌==◌, false, List, [], ◌∷◌, ◌++◌, length, take, get_or, Ok, refl, sym, ◌∙◌, ap, arith}
use Rattle.std.specs.List.{All, AllByRecursion}
use Rattle.std.proofs.lemmas.List.{length_push, take_more}
use Rattle.std.proofs.lemmas.List.Elements.{All-from_recursion, All-head, All-tail}
use Rattle.ath_sorts.specs.Signature.{Signature}
use Rattle.ath_terms.specs.declared.measure.BuildError.{BuildError}
use Rattle.ath_terms.specs.SortsIn.{IsSortedIn}
use Rattle.ath_terms.specs.Trees.{Trees, sent_at}
use Rattle.ath_trees.specs.declared.node.Quant.{Quant}
use Rattle.ath_trees.specs.declared.node.SentId.{SentId}
use Rattle.ath_trees.specs.declared.node.Var.{Var}
use Rattle.ath_trees.specs.Tree.{Sent}
use Rattle.ath_construction.specs.Answers.{IsRefused, IsSentBuilt}
use Rattle.ath_construction.specs.Construction.{Unbuilt, Built, builds, refuses, made_quantifier}
use Rattle.ath_env.specs.declared.value.Value as value
use Rattle.ath_env.specs.declared.value.Value.TheVariants as code
use Rattle.ath_env.specs.Stands.{IsIn, value_at}
use Rattle.ath_env.specs.Values.{Value}
use Rattle.ath_eval.specs.Applying.{all_are, kinds_of, part_of, variable_in, but_last, the_last, quantified, quantified_over, quantifier_to, quantifier_applied}
use Rattle.ath_eval.specs.Arguments.{values_at}
use Rattle.ath_eval.specs.Laws.{IsSortedValue}
use Rattle.ath_eval.proofs.Arguments.{values_end}
use Rattle.ath_eval.proofs.ConnectiveLaws.{refused_same}
use Rattle.ath_eval.proofs.Constructed.{IsSortedVariable, variable-sorted}
use Rattle.ath_eval.proofs.KindLaws.{length_map}
use Rattle.ath_eval.proofs.Sound.{all-of}

-- ---- the variables that are found
module _ (sig : Signature) (s : Trees) (sorted : IsSortedIn sig s) where
  value_sorted : (v : value.Value) → IsIn s v → IsSortedValue sig (value_at s v)
  value_sorted (code.Term t) h = sorted.terms t.0 h
  value_sorted (code.Sent p) h = sorted.sents p.0 h
  value_sorted (code.Symbol f) h = tt
  value_sorted (code.Conn k) h = tt
  value_sorted (code.Quant q) h = tt
  value_sorted code.Back h = tt
  value_sorted (code.PrimMethod n) h = tt

  values_sorted : (vs : List value.Value) → All (IsIn s) vs → AllByRecursion (IsSortedValue sig) (values_at s vs)
  values_sorted [] h = tt
  values_sorted (v ∷ vs) h = (value_sorted v (All-head (IsIn s) v vs h), values_sorted vs (All-tail (IsIn s) v vs h))

  pub variables_sorted : (vs : List value.Value) (xs : List Var) → All (IsIn s) vs → kinds_of variable_in 1 (values_at s vs) ≡ all_are xs → All (IsSortedVariable sig) xs
  variables_sorted vs xs h e = All-from_recursion (IsSortedVariable sig) xs (all-of variable_in (IsSortedValue sig) (IsSortedVariable sig) (variable-sorted sig) 1 (values_at s vs) xs (values_sorted vs h) e).0

-- ---- a variable after others
module _ (sig : Signature) (q : Quant) where
  over_end : (vs : List Var) (v : Var) (b : Built Sent) → quantified_over sig q (vs ++ v ∷ []) b ≡ quantified_over sig q vs (quantified sig q v b)
  over_end [] v b = refl
  over_end (w ∷ vs) v b = ap (quantified sig q w) (over_end vs v b)

  over_refused : (vs : List Var) (why : Unbuilt) → quantified_over sig q vs (refuses why) ≡ refuses why
  over_refused [] why = refl
  over_refused (v ∷ vs) why = ap (quantified sig q v) (over_refused vs why)

  -- where the part is refused the quantifier is
  pub part_refused : (u : Trees) (vs : List Var) (b : Built Sent) (e : BuildError) → IsRefused u b e → IsRefused u (quantified_over sig q vs b) e
  part_refused u vs b e h = refused_same u b (quantified_over sig q vs b) e (λ why r. ap (quantified_over sig q vs) r ∙ over_refused vs why) h

  -- the variable before the number i
  module _ (vs : List Var) (i : ℕ) (v : Var) (some : 0 < i) (within : i ≤ length vs) (here : v ≡ get_or vs (i - 1) v) (p : Sent) (whole : Built Sent) (inv : whole ≡ quantified_over sig q (take i vs) (builds p)) where
    next_is : whole ≡ quantified_over sig q (take (i - 1) vs) (made_quantifier sig q v p)
    next_is =
        let n : i ≡ i - 1 + 1 = omega (arith, some) in
        let e : take i vs ≡ take (i - 1) vs ++ v ∷ [] = ap (λ (k : ℕ). take k vs) n ∙ take_more vs (i - 1) v (omega (arith, some, within)) ∙ ap (λ (w : Var). take (i - 1) vs ++ w ∷ []) (sym here) in
        inv ∙ ap (λ (us : List Var). quantified_over sig q us (builds p)) e ∙ over_end (take (i - 1) vs) v (builds p)

    pub over_next : (u : Trees) (r : SentId) → IsSentBuilt u (made_quantifier sig q v p) (Ok r) → whole ≡ quantified_over sig q (take (i - 1) vs) (builds (sent_at u.sents r.0))
    over_next u r (x, e, is) = next_is ∙ ap (quantified_over sig q (take (i - 1) vs)) (e ∙ ap builds (sym is.1))

    pub over_stopped : (u : Trees) (e : BuildError) → IsRefused u (made_quantifier sig q v p) e → IsRefused u whole e
    over_stopped u e h = refused_same u (made_quantifier sig q v p) whole e (λ why r. next_is ∙ ap (quantified_over sig q (take (i - 1) vs)) r ∙ over_refused (take (i - 1) vs) why) h

-- ---- the arguments
but_last-end : (v : Value) (vs : List Value) (w : Value) → but_last v (vs ++ w ∷ []) ≡ v ∷ vs
but_last-end v [] w = refl
but_last-end v (u ∷ vs) w = ap (λ (us : List Value). v ∷ us) (but_last-end u vs w)

the_last-end : (v : Value) (vs : List Value) (w : Value) → the_last v (vs ++ w ∷ []) ≡ w
the_last-end v [] w = refl
the_last-end v (u ∷ vs) w = the_last-end u vs w

module _ (sig : Signature) (q : Quant) where
  applied-end : (v : Value) (vs : List Value) (w : Value) → quantifier_applied sig q (v ∷ vs ++ w ∷ []) ≡ quantifier_to sig q (length (v ∷ vs) + 1) (kinds_of variable_in 1 (v ∷ vs)) (part_of w)
  applied-end v [] w = refl
  applied-end v (u ∷ vs) w =
      let n : length (v ∷ u ∷ vs ++ w ∷ []) ≡ length (v ∷ u ∷ vs) + 1 = length_push (v ∷ u ∷ vs) w in
      λ i. quantifier_to sig q (n i) (kinds_of variable_in 1 (v ∷ but_last-end u vs w i)) (part_of (the_last-end u vs w i))

  pub applied_to : (s : Trees) (front : List value.Value) (last : value.Value) → (length front == 0) ≡ false → quantifier_applied sig q (values_at s (front ++ last ∷ [])) ≡ quantifier_to sig q (length front + 1) (kinds_of variable_in 1 (values_at s front)) (part_of (value_at s last))
  applied_to s [] last h = absurd (cc)
  applied_to s (v ∷ front) last h =
      ap (λ (xs : List Value). quantifier_applied sig q (value_at s v ∷ xs)) (values_end s front last) ∙ applied-end (value_at s v) (values_at s front) (value_at s last)
      ∙ (let n : length (value_at s v ∷ values_at s front) + 1 ≡ length (v ∷ front) + 1 = ap (λ (k : ℕ). k + 1) (length_map (value_at s) (v ∷ front)) in ap (λ (k : ℕ). quantifier_to sig q k (kinds_of variable_in 1 (values_at s (v ∷ front))) (part_of (value_at s last))) n)
