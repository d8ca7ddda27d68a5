-- Where sorts differ, and how a difference is removed. The test `first v w` says whether the variable v stands before w.
use Rattle.std.specs.Prelude.{ℕ, zero, suc, Bool, ◌==◌, List, [], ◌∷◌, map, Result, Ok, Err, if◌then◌else◌}
use Rattle.ath_sorts.specs.declared.sorts.SVar.{SVar}
use Rattle.ath_sorts.specs.declared.sorts.Sort.{Sort, Var, Con, out-Sort}
use Rattle.ath_sorts.specs.declared.sorts.Sort.TheOpen as one
use Rattle.ath_sorts.specs.declared.sorts.Sort.TheFolds.{fold-Sort}
use Rattle.ath_sorts.specs.Sorts.{same_svar, image, apply_to, occurs, after}

-- what is found at the first place where two sorts differ: no such place, a variable and the sort that has to be put for it, or that nothing makes them equal
pub data Difference : Type 0 where
  none : Difference
  binds : SVar → Sort → Difference
  apart : Difference

-- a sort and how another differs from it
abbrev pub Compared : Type 0
Compared = Sort × (Sort → Difference)

abbrev pub first_of : Difference → Difference → Difference
first_of none d = d
first_of (binds v t) d = binds v t
first_of apart d = apart

-- the first difference of two lists, place by place
abbrev pub first_among : List (Sort → Difference) → List Sort → Difference
first_among [] [] = none
first_among [] (t ∷ ts) = apart
first_among (d ∷ ds) [] = apart
first_among (d ∷ ds) (t ∷ ts) = first_of (d t) (first_among ds ts)

-- a variable becomes a sort, in which it may not occur
abbrev pub binding : SVar → Sort → Difference
binding v t = if occurs v t then apart else binds v t

-- of two variables the one that stands first stays
abbrev pub between : (SVar → SVar → Bool) → SVar → SVar → Difference
between first v w = if same_svar v w then none else (if first v w then binds w (Var v) else binds v (Var w))

abbrev pub compare_step : (SVar → SVar → Bool) → one.Sort-F Compared → one.Sort-F Sort → Difference
compare_step first (one.Var v) (one.Var w) = between first v w
compare_step first (one.Var v) (one.Con d args) = binding v (Con d args)
compare_step first (one.Con c parts) (one.Var w) = binding w (Con c (map (λ p. p.0) parts))
compare_step first (one.Con c parts) (one.Con d args) = if c.0 == d.0 then first_among (map (λ p. p.1) parts) args else apart

-- the sort that its parts make again
abbrev pub whole : one.Sort-F Compared → Sort
whole (one.Var v) = Var v
whole (one.Con c parts) = Con c (map (λ p. p.0) parts)

abbrev pub compared : (SVar → SVar → Bool) → Sort → Compared
compared first = fold-Sort Compared (λ x. (whole x, λ t. compare_step first x (out-Sort t)))

-- the first difference of two sorts, from the left
abbrev pub difference : (SVar → SVar → Bool) → Sort → Sort → Difference
difference first s = (compared first s).1

abbrev pub first_place : Difference → ℕ × Difference → ℕ × Difference
first_place none r = (suc r.0, r.1)
first_place (binds v t) r = (0, binds v t)
first_place apart r = (0, apart)

-- the first pair whose sides differ, by its place, and their difference
abbrev pub search : (SVar → SVar → Bool) → List (Sort × Sort) → ℕ × Difference
search first [] = (0, none)
search first (p ∷ pairs) = first_place (difference first p.0 p.1) (search first pairs)

-- the pairs with a sort for a variable
abbrev pub replaced : SVar → Sort → List (Sort × Sort) → List (Sort × Sort)
replaced v t pairs = map (λ p. (apply_to (image ((v, t) ∷ [])) p.0, apply_to (image ((v, t) ∷ [])) p.1)) pairs

-- the one variable replaced, and then the others
abbrev pub with_binding : SVar → Sort → Result (List (SVar × Sort)) ℕ → Result (List (SVar × Sort)) ℕ
with_binding v t (Ok s) = Ok (after s ((v, t) ∷ []))
with_binding v t (Err at) = Err at

abbrev pub solve_step : (SVar → Sort → Result (List (SVar × Sort)) ℕ) → ℕ × Difference → Result (List (SVar × Sort)) ℕ
solve_step go (at, none) = Ok []
solve_step go (at, binds v t) = go v t
solve_step go (at, apart) = Err at

-- the first difference is removed by a binding, and so on; or there is none; or the place of the pair whose sides can't be made equal. Each binding takes a variable away from the pairs, so that n suffices where there are at most n
abbrev pub solve : (SVar → SVar → Bool) → ℕ → List (Sort × Sort) → Result (List (SVar × Sort)) ℕ
solve first zero pairs = solve_step (λ v t. Err 0) (search first pairs)
solve first (suc n) pairs = solve_step (λ v t. with_binding v t (solve first n (replaced v t pairs))) (search first pairs)
