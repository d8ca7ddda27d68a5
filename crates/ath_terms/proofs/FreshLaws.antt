-- A taken index is below the bound of all of them.
use Rattle.std.proofs.Common.{◌≡◌, ℕ, suc, ◌+◌, ◌<◌, ◌≤◌, ◌==◌, ◌&&◌, ◌⊎◌, true, List, [], ◌∷◌, arith, inl, inr}
use Rattle.std.specs.List.{All}
use Rattle.std.proofs.lemmas.Grind.{common_steps}
use Rattle.ath_sorts.specs.declared.sorts.Sym.{Sym}
use Rattle.ath_sorts.proofs.Bools.{either_of, and_parts, same_num}
use Rattle.ath_terms.specs.Fresh.{is_taken}

pub taken_below : (bound : ℕ) (taken : List (Sym × ℕ)) (name : Sym) (k : ℕ) → All (λ e. e.1 < bound) taken → is_taken taken name k ≡ true → k < bound
taken_below bound [] name k all e = absurd (cc)
taken_below bound (x ∷ xs) name k all e = elim (either_of (x.0.0 == name.0 && x.1 == k) (is_taken xs name k) e) [
  | inl h ↦
      let p = same_num x.1 k (and_parts (x.0.0 == name.0) (x.1 == k) h).1 in
      let q = all 0 x (omega arith) in
      omega arith
  | inr h ↦ taken_below bound xs name k (λ i d l. all (suc i) d (omega arith)) h
]

-- one index more
pub taken_more : (taken : List (Sym × ℕ)) (name : Sym) (counter index : ℕ) → ((k : ℕ) → counter ≤ k → k < index → is_taken taken name k ≡ true) → is_taken taken name index ≡ true → (k : ℕ) → counter ≤ k → k < index + 1 → is_taken taken name k ≡ true
taken_more taken name counter index h e k l m = elim (last k index m) [
  | inl p ↦ h k l p
  | inr p ↦ rw p e
]
  where
    last : (a b : ℕ) → a < b + 1 → (a < b) ⊎ (a ≡ b)
    last a b q = grind (arith, common_steps)
