-- The end of a list is the innermost of what is open.
use Rattle.std.proofs.Common.{◌≡◌, ℕ, ◌+◌, ◌≤◌, List, [], ◌∷◌, ◌++◌, length, subst, arith}
use Rattle.std.specs.Prelude.{reverse}
use Rattle.std.proofs.lemmas.List.{reverse-append, length-reverse}
use Rattle.ath_grammar.specs.declared.levels.Open.{Open}
use Rattle.ath_grammar.specs.declared.levels.Open.TheVariants.{Bracket, Fresh, Branches, Awaits, Names, Sort, Variable}
use Rattle.ath_grammar.specs.Levels.{level, depth_of}

pub reverse_push : (os : List Open) (o : Open) → reverse (os ++ o ∷ []) ≡ o ∷ reverse os
reverse_push os o = reverse-append os (o ∷ [])

one_at_most : (o : Open) → level o ≤ 1
one_at_most Bracket = omega arith
one_at_most Fresh = omega arith
one_at_most Branches = omega arith
one_at_most (Awaits n) = omega arith
one_at_most Names = omega arith
one_at_most Sort = omega arith
one_at_most Variable = omega arith

count : (os : List Open) → depth_of os ≤ length os
count [] = omega arith
count (o ∷ os) = omega (arith, one_at_most o, count os)

pub depth_fits : (os : List Open) → depth_of (reverse os) ≤ length os
depth_fits os = subst (λ (n : ℕ). depth_of (reverse os) ≤ n) (length-reverse os) (count (reverse os))
