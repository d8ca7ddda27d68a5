-- The outcome is what was to be found, and answers are outcomes.
use Rattle.std.proofs.Common.{◌≡◌, ℕ, ◌+◌, ◌<◌, Bool, true, false, cond, ◌&&◌, List, [], ◌∷◌, length, Some, Result, Ok, Err, refl, sym, ◌∙◌, ap, arith, ◌⊎◌, inl, inr}
use Rattle.std.proofs.lemmas.Grind.{common_steps}
use Rattle.std.specs.List.{list_all}
use Rattle.ath_sorts.specs.declared.sorts.SVar.{SVar}
use Rattle.ath_sorts.specs.declared.sorts.Sort.{Sort, Var}
use Rattle.ath_unifiers.specs.declared.unification.UnifyError.{UnifyError}
use Rattle.ath_unifiers.specs.declared.unification.UnifyError.TheVariants.{Clash, SortTooLarge, Memory}
use Rattle.ath_sorts.specs.Sorts.{is_small, same_svar, image}
use Rattle.ath_sorts.specs.Substitutions.{entry_of}
use Rattle.ath_unifiers.specs.Unifiers.{IsLeastUnifier, IsClash, MatchUnified}
use Rattle.ath_unifiers.specs.Order.{precedes, vars_read}
use Rattle.ath_sorts.proofs.Bools.{true-not-false, and_parts, bool_cases}
use Rattle.ath_sorts.proofs.Gets.{some-not-none}
use Rattle.ath_sorts.proofs.SortLaws.{size-var, depth-var, same_svar-true}
use Rattle.ath_sorts.proofs.SubstitutionLaws.{image-none, opt_cases}
use Rattle.ath_unifiers.proofs.UnifierLaws.{agree}
use Rattle.ath_unifiers.specs.Differences.{solve}
use Rattle.ath_unifiers.specs.Unified.{Unified, solved, clashes, too_large, has_small_images, within_limits, unified}
use Rattle.ath_unifiers.specs.Outcomes.{IsUnified, MatchOutcome}
use Rattle.ath_unifiers.proofs.Preceding.{is_order}
use Rattle.ath_unifiers.proofs.Reading.{read_in}
use Rattle.ath_unifiers.proofs.Searching.{unifies_shorter, unifies_take}
use Rattle.ath_unifiers.proofs.Solving.{IsSolved, MatchSolved, solve_is}

least_of : (pairs : List (Sort × Sort)) (s : List (SVar × Sort)) → IsSolved (precedes (vars_read pairs)) pairs s → IsLeastUnifier s pairs
least_of pairs s h = record {
  unifies = h.unifies;
  idempotent = λ v. sym (h.absorbs (image s) h.unifies v);
  most_general = λ f u. (f, h.absorbs f u);
  least = h.least;
}

small-var : (v : SVar) → is_small (Var v) ≡ true
small-var v = let a = size-var v in let b = depth-var v in grind (arith, common_steps)

-- where the test passes, each entry of the map is within the limits
module _ (s : List (SVar × Sort)) where
  entry_small : (es : List (SVar × Sort)) (v : SVar) (t : Sort) → list_all (λ e. is_small (image s e.0)) es ≡ true → entry_of es v ≡ Some t → is_small (image s v) ≡ true
  entry_small [] v t h = λ e. absurd (some-not-none t (sym e))
  entry_small (x ∷ es) v t h = by (same_svar x.0 v) refl (and_parts (is_small (image s x.0)) (list_all (λ e. is_small (image s e.0)) es) h) (λ p. entry_small es v t p)
    where
      by : (b : Bool) → same_svar x.0 v ≡ b → (is_small (image s x.0) ≡ true) × (list_all (λ e. is_small (image s e.0)) es ≡ true) → (list_all (λ e. is_small (image s e.0)) es ≡ true → entry_of es v ≡ Some t → is_small (image s v) ≡ true) → cond b (Some x.1) (entry_of es v) ≡ Some t → is_small (image s v) ≡ true
      by true k p rest e = ap (λ w. is_small (image s w)) (sym (same_svar-true x.0 v k)) ∙ p.0
      by false k p rest e = rest p.1 e

  all_small : has_small_images s ≡ true → (v : SVar) → is_small (image s v) ≡ true
  all_small h v = elim (opt_cases (entry_of s v)) [
    | inl p ↦ ap is_small (image-none s v p) ∙ small-var v
    | inr p ↦ entry_small s v p.0 h p.1
  ]

  one_large : (es : List (SVar × Sort)) → list_all (λ e. is_small (image s e.0)) es ≡ false → (v : SVar) × (is_small (image s v) ≡ false)
  one_large [] h = absurd (true-not-false h)
  one_large (x ∷ es) h = elim (bool_cases (is_small (image s x.0))) [
    | inl p ↦ one_large es (sym (ap (λ b. b && list_all (λ e. is_small (image s e.0)) es) p) ∙ h)
    | inr p ↦ (x.0, p)
  ]

outcome_is : (pairs : List (Sort × Sort)) (r : Result (List (SVar × Sort)) ℕ) → MatchSolved (precedes (vars_read pairs)) pairs r → IsUnified pairs (within_limits r)
outcome_is pairs (Err at) h = h
outcome_is pairs (Ok s) h = by (has_small_images s) refl
  where
    by : (b : Bool) → has_small_images s ≡ b → IsUnified pairs (cond b (solved s) too_large)
    by true e = (least_of pairs s h, h.moves, all_small s e)
    by false e = (s, least_of pairs s h, one_large s s e)

pub unified_is : (pairs : List (Sort × Sort)) → IsUnified pairs (unified pairs)
unfolding unified
unified_is pairs =
    let read = vars_read pairs in
    let among : (u : SVar) → _ = λ u. read_in u pairs in
    outcome_is pairs (solve (precedes read) (length read) pairs)
    (solve_is (precedes read) read (is_order read) (length read) read pairs (omega arith) among among)

-- one list of pairs has one outcome
clash_not_unified : (pairs : List (Sort × Sort)) (at : ℕ) (s : List (SVar × Sort)) → IsClash pairs at → IsLeastUnifier s pairs → ⊥
clash_not_unified pairs at s c m = c.2 (image s, unifies_take (image s) (at + 1) pairs m.unifies)

no_earlier : (pairs : List (Sort × Sort)) (i j : ℕ) → IsClash pairs i → IsClash pairs j → i < j → ⊥
no_earlier pairs i j c d l = c.2 (d.1.0, unifies_shorter d.1.0 (i + 1) j pairs (omega arith) d.1.1)

one_clash : (pairs : List (Sort × Sort)) (i j : ℕ) → IsClash pairs i → IsClash pairs j → i ≡ j
one_clash pairs i j c d = elim (three i j) [
  | inl p ↦ absurd (no_earlier pairs i j c d p)
  | inr p ↦ elim p [ inl q ↦ absurd (no_earlier pairs j i d c q) | inr q ↦ q ]
]
  where
    three : (i j : ℕ) → (i < j) ⊎ ((j < i) ⊎ (i ≡ j))
    three i j = grind (arith, common_steps)

not_both : (pairs : List (Sort × Sort)) (s t : List (SVar × Sort)) → IsLeastUnifier s pairs → ((v : SVar) → is_small (image s v) ≡ true) → IsLeastUnifier t pairs → (v : SVar) → is_small (image t v) ≡ false → ⊥
not_both pairs s t m small n v large = true-not-false (sym (small v) ∙ ap is_small (agree s t pairs m n v) ∙ large)

pub answer_is : (pairs : List (Sort × Sort)) (answer : Result (List (SVar × Sort)) UnifyError) (u : Unified) → IsUnified pairs u → MatchUnified pairs answer → MatchOutcome answer u
answer_is pairs (Ok s) (solved t) h m = (t, refl, agree s t pairs m.0 h.0)
answer_is pairs (Ok s) (clashes at) h m = absurd (clash_not_unified pairs at s h m.0)
answer_is pairs (Ok s) too_large h m = absurd (not_both pairs s h.0 m.0 m.2 h.1 h.2.0 h.2.1)
answer_is pairs (Err (Clash at)) (solved t) h m = absurd (clash_not_unified pairs at t m h.0)
answer_is pairs (Err (Clash at)) (clashes i) h m = ap clashes (one_clash pairs i at h m)
answer_is pairs (Err (Clash at)) too_large h m = absurd (clash_not_unified pairs at h.0 m h.1)
answer_is pairs (Err SortTooLarge) (solved t) h m = absurd (not_both pairs t m.0 h.0 h.2 m.1 m.2.0 m.2.1)
answer_is pairs (Err SortTooLarge) (clashes at) h m = absurd (clash_not_unified pairs at m.0 h m.1)
answer_is pairs (Err SortTooLarge) too_large h m = refl
answer_is pairs (Err Memory) u h m = tt

pub answers_agree : (pairs : List (Sort × Sort)) (answer : Result (List (SVar × Sort)) UnifyError) → MatchUnified pairs answer → MatchOutcome answer (unified pairs)
answers_agree pairs answer m = answer_is pairs answer (unified pairs) (unified_is pairs) m
