use Rattle.std.proofs.Common.{◌≡◌, take, map}
use Rattle.ath_terms.specs.Trees.{term_at}
use Rattle.ath_terms.proofs.equality.+is_same_term.Given as goal

abbrev pub decreases-is_same_term : goal.decreases-is_same_term
decreases-is_same_term l = l.s.0

abbrev pub invariant-loop-i : goal.invariant-loop-i
invariant-loop-i l = map (λ j. term_at l.store.terms j.0) (take l.i l.xs) ≡ map (λ j. term_at l.store.terms j.0) (take l.i l.ys)
