-- Truth values, and when two numbers are one.
use Rattle.std.proofs.Common.{◌≡◌, ℕ, ◌==◌, Bool, true, false, ◌&&◌, ◌||◌, refl, arith, ◌⊎◌, inl, inr}
use Rattle.std.proofs.lemmas.Grind.{common_steps}

pub true-not-false : true ≡ false → ⊥
true-not-false e = cc

pub bool_cases : (b : Bool) → (b ≡ true) ⊎ (b ≡ false)
bool_cases true = inl refl
bool_cases false = inr refl

pub either_of : (a b : Bool) → (a || b) ≡ true → (a ≡ true) ⊎ (b ≡ true)
either_of true b h = inl refl
either_of false b h = inr h

pub either_to : (a b : Bool) → (a ≡ true) ⊎ (b ≡ true) → (a || b) ≡ true
either_to true b h = refl
either_to false b h = elim h [ inl p ↦ absurd (cc) | inr p ↦ p ]

pub and_parts : (a b : Bool) → (a && b) ≡ true → (a ≡ true) × (b ≡ true)
and_parts true b h = (refl, h)
and_parts false b h = absurd (cc)

pub or_parts : (a b : Bool) → (a || b) ≡ false → (a ≡ false) × (b ≡ false)
or_parts true b h = absurd (true-not-false h)
or_parts false b h = (refl, h)

pub or_false : (a b : Bool) → a ≡ false → b ≡ false → (a || b) ≡ false
or_false a b p q = rw (p, q) refl

pub and-true : (b : Bool) → (b && true) ≡ b
and-true true = refl
and-true false = refl

pub or-false : (b : Bool) → (b || false) ≡ b
or-false true = refl
or-false false = refl

pub turned : (m n : ℕ) → (m == n) ≡ (n == m)
turned m n = grind (arith, common_steps)

pub same_num : (m n : ℕ) → (m == n) ≡ true → m ≡ n
same_num m n e = grind (arith, common_steps)

pub num_same : (m : ℕ) → (m == m) ≡ true
num_same m = grind (arith, common_steps)

pub num_cases : (m n : ℕ) → (m ≡ n) ⊎ (m ≡ n → ⊥)
num_cases m n = grind (arith, common_steps)
