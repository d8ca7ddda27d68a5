-- What the groups of names tell.
use Rattle.std.proofs.Common.{◌≡◌, ◌<◌, ℕ, zero, suc, ◌==◌, max, Bool, true, false, List, [], ◌∷◌, refl, sym, ◌∙◌, ap, arith}
use Rattle.std.specs.Prelude.{filter}
use Rattle.std.specs.Int.{bit_at}
use Rattle.std.proofs.lemmas.Nat.Bits.{bit_at_or, bit_at-lt, bit_at-pow_same}
use Rattle.ath_sorts.proofs.Bools.{and_parts, or_parts, or-false, same_num}
use Rattle.ath_trees.specs.declared.groups.NameGroups.{NameGroups}
use Rattle.ath_trees.specs.declared.node.Var.{Var}
use Rattle.ath_trees.specs.Groups.{group_of, only, both, may_have}
use Rattle.ath_trees.specs.Occurrences.{is_among, is_named}
use Rattle.ath_trees.specs.Variables.{is_namesake, with_var, with_vars}
use Rattle.ath_trees.proofs.Occurring.{by_cases, not_true, named-append}

-- a greatest of two bits that isn't set
no_bit : (a b : ℕ) → a < 2 → b < 2 → (max a b == 1) ≡ false → ((a == 1) ≡ false) × ((b == 1) ≡ false)
no_bit zero zero p q e = (refl, refl)
no_bit zero (suc zero) p q e = absurd (cc)
no_bit (suc zero) zero p q e = absurd (cc)
no_bit (suc zero) (suc zero) p q e = absurd (cc)
no_bit zero (suc (suc b)) p q e = absurd (omega arith)
no_bit (suc zero) (suc (suc b)) p q e = absurd (omega arith)
no_bit (suc (suc a)) b p q e = absurd (omega arith)

pub both-lack : (g h : NameGroups) (v : Var) → may_have (both g h) v ≡ false → (may_have g v ≡ false) × (may_have h v ≡ false)
both-lack g h v e =
    let i = group_of v in
    no_bit (bit_at g.bits i) (bit_at h.bits i) (bit_at-lt g.bits i) (bit_at-lt h.bits i) (ap (λ n. n == 1) (sym (bit_at_or g.bits h.bits i)) ∙ e)

pub only-lacks : (v w : Var) → may_have (only w) v ≡ false → is_namesake v w ≡ false
only-lacks v w e = not_true (is_namesake v w) (λ t.
    let p = and_parts (v.name.0 == w.name.0) (v.index == w.index) t in
    let a = same_num v.name.0 w.name.0 p.0 in
    let b = same_num v.index w.index p.1 in
    let g : group_of v ≡ group_of w = λ i. group_of (record { name = record { 0 = a i }; index = b i; sort = v.sort }) in
    let s = bit_at-pow_same (group_of w) in
    let r : may_have (only w) v ≡ true = rw (g, s) refl in
    absurd (cc))

-- ---- names among variables that are found
pub named-with_var : (v : Var) (found : List Var) (w : Var) → is_namesake v w ≡ false → is_named v (with_var found w) ≡ is_named v found
named-with_var v found w e = by_cases (is_among w found)
    (λ t. rw t refl)
    (λ f. rw f (named-append v found (w ∷ []) ∙ rw e (or-false (is_named v found))))

pub named-with_vars : (v : Var) (found vs : List Var) → is_named v vs ≡ false → is_named v (with_vars found vs) ≡ is_named v found
named-with_vars v found [] e = refl
named-with_vars v found (w ∷ vs) e =
    let p = or_parts (is_namesake v w) (is_named v vs) e in
    named-with_vars v (with_var found w) vs p.1 ∙ named-with_var v found w p.0

pub named-filter : (v : Var) (f : Var → Bool) (vs : List Var) → is_named v vs ≡ false → is_named v (filter f vs) ≡ false
named-filter v f [] e = refl
named-filter v f (w ∷ vs) e =
    let p = or_parts (is_namesake v w) (is_named v vs) e in
    let r = named-filter v f vs p.1 in
    by_cases (f w) (λ t. rw t (rw (p.0, r) refl)) (λ g. rw g r)
