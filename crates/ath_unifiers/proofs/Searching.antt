-- What is known of the first pair whose sides differ.
use Rattle.std.proofs.Common.{◌≡◌, ℕ, zero, suc, ◌<◌, ◌≤◌, Bool, List, [], ◌∷◌, length, map, take, refl, sym, ◌∙◌, ap, arith, inl, inr}
use Rattle.std.specs.List.{AllByRecursion}
use Rattle.ath_sorts.specs.declared.sorts.SVar.{SVar}
use Rattle.ath_sorts.specs.declared.sorts.Sort.{Sort, Var, Con}
use Rattle.ath_sorts.specs.Sorts.{apply_to, occurs}
use Rattle.ath_unifiers.specs.Unifiers.{Unifies}
use Rattle.ath_sorts.proofs.Bools.{true-not-false}
use Rattle.ath_sorts.proofs.SortLaws.{sort_induction, apply-var, apply-con, occurs-var, same_svar-refl}
use Rattle.ath_unifiers.specs.Differences.{Difference, none, binds, apart, difference, first_place, search}
use Rattle.ath_unifiers.proofs.Compared.{IsBinding, MatchDifference, IsDifference, IsInside, rebound, weaker, difference_is}
use Rattle.ath_unifiers.proofs.Reading.{IsRead}

all_stay : (args : List Sort) → AllByRecursion (λ s. apply_to (λ v. Var v) s ≡ s) args → map (apply_to (λ v. Var v)) args ≡ args
all_stay [] h = refl
all_stay (s ∷ ss) h = λ i. h.0 i ∷ all_stay ss h.1 i

stays : (s : Sort) → apply_to (λ v. Var v) s ≡ s
stays =
    let P : Sort → Type 0 = λ s. apply_to (λ v. Var v) s ≡ s in
    sort_induction P (λ v. apply-var (λ w. Var w) v) (λ c args h. apply-con (λ w. Var w) c args ∙ ap (Con c) (all_stay args h))

-- a first part is unified where a longer one is
pub unifies_shorter : (f : SVar → Sort) (j k : ℕ) (pairs : List (Sort × Sort)) → j ≤ k → Unifies f (take k pairs) → Unifies f (take j pairs)
unifies_shorter f zero k pairs l u = tt
unifies_shorter f (suc j) zero pairs l u = absurd (omega arith)
unifies_shorter f (suc j) (suc k) [] l u = tt
unifies_shorter f (suc j) (suc k) (p ∷ pairs) l u = (u.0, unifies_shorter f j k pairs (omega arith) u.1)

pub unifies_take : (f : SVar → Sort) (j : ℕ) (pairs : List (Sort × Sort)) → Unifies f pairs → Unifies f (take j pairs)
unifies_take f zero pairs u = tt
unifies_take f (suc j) [] u = tt
unifies_take f (suc j) (p ∷ pairs) u = (u.0, unifies_take f j pairs u.1)

abbrev pub IsPlace : ℕ → ℕ → Difference → Type 0
IsPlace n at none = Unit {0}
IsPlace n at (binds v t) = at < n
IsPlace n at apart = at < n

module _ (first : SVar → SVar → Bool) where
  pub record IsFound (pairs : List (Sort × Sort)) (at : ℕ) (d : Difference) : Type 0 where
    pub place : IsPlace (length pairs) at d
    -- what stands before it is equal
    pub before : (k : ℕ) → k ≤ at → (f : SVar → Sort) → Unifies f (take k pairs)
    pub says : MatchDifference first ((f : SVar → Sort) → Unifies f pairs) (λ f. Unifies f (take (suc at) pairs)) (λ u. IsRead u pairs) d

  binding_differs : (s t : Sort) (v : SVar) (x : Sort) → IsBinding first (λ f. apply_to f s ≡ apply_to f t) (IsInside first s t) v x → s ≡ t → ⊥
  binding_differs s t v x b e =
      let p = b.forced (λ w. Var w) (ap (apply_to (λ w. Var w)) e) ∙ stays x in
      true-not-false (sym (sym (ap (occurs v) p) ∙ occurs-var v v ∙ same_svar-refl v) ∙ b.absent)

  next_place : (n at : ℕ) (d : Difference) → IsPlace n at d → IsPlace (suc n) (suc at) d
  next_place n at none h = tt
  next_place n at (binds v t) h = omega arith
  next_place n at apart h = omega arith

  next_before : (p : Sort × Sort) (pairs : List (Sort × Sort)) (at : ℕ) → p.0 ≡ p.1 → ((k : ℕ) → k ≤ at → (f : SVar → Sort) → Unifies f (take k pairs)) → (k : ℕ) → k ≤ suc at → (f : SVar → Sort) → Unifies f (take k (p ∷ pairs))
  next_before p pairs at e h zero l f = tt
  next_before p pairs at e h (suc k) l f = (ap (apply_to f) e, h k (omega arith) f)

  none_before : (pairs : List (Sort × Sort)) (k : ℕ) → k ≤ 0 → (f : SVar → Sort) → Unifies f (take k pairs)
  none_before pairs zero l f = tt
  none_before pairs (suc k) l f = absurd (omega arith)

  found_first : (p : Sort × Sort) (pairs : List (Sort × Sort)) (d : Difference) (r : ℕ × Difference) → IsDifference first p.0 p.1 d → IsFound pairs r.0 r.1 → IsFound (p ∷ pairs) (first_place d r).0 (first_place d r).1
  found_first p pairs none r e h = record {
    place = next_place (length pairs) r.0 r.1 h.place;
    before = next_before p pairs r.0 e h.before;
    says = weaker first ((f : SVar → Sort) → Unifies f pairs) ((f : SVar → Sort) → Unifies f (p ∷ pairs))
        (λ f. Unifies f (take (suc r.0) pairs)) (λ f. Unifies f (take (suc (suc r.0)) (p ∷ pairs)))
        (λ u. IsRead u pairs) (λ u. IsRead u (p ∷ pairs))
        (λ all f. (ap (apply_to f) e, all f)) (λ f u. u.1) (λ u k. inr k) r.1 h.says;
  }
  found_first p pairs (binds v t) r b h = record {
    place = omega arith;
    before = none_before (p ∷ pairs);
    says = rebound first (λ f. apply_to f p.0 ≡ apply_to f p.1) (λ f. Unifies f (take 1 (p ∷ pairs)))
        (IsInside first p.0 p.1) (λ u. IsRead u (p ∷ pairs)) v t
        (λ f u. u.0) (λ u k. inl (binding_differs p.0 p.1 v t b, k)) b;
  }
  found_first p pairs apart r never h = record {
    place = omega arith;
    before = none_before (p ∷ pairs);
    says = λ f u. never f u.0;
  }

  pub search_finds : (pairs : List (Sort × Sort)) → IsFound pairs (search first pairs).0 (search first pairs).1
  search_finds [] = record {
    place = tt;
    before = none_before [];
    says = λ f. tt;
  }
  search_finds (p ∷ pairs) = found_first p pairs (difference first p.0 p.1) (search first pairs) (difference_is first p.0 p.1) (search_finds pairs)
