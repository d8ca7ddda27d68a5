use Rattle.std.proofs.Common.{◌≡◌, take, map}
use Rattle.ath_sorts.specs.Sorts.{image}
use Rattle.ath_trees.specs.Under.{term_under}
use Rattle.ath_terms.specs.Trees.{term_at}
use Rattle.ath_subst.proofs.keeping.+leaves_term.Given as goal

abbrev pub decreases-leaves_term : goal.decreases-leaves_term
decreases-leaves_term l = l.t.0

abbrev pub invariant-loop-i : goal.invariant-loop-i
invariant-loop-i l = map (λ j. term_under (image l.subst) (term_at l.store.terms j.0)) (take l.i l.parts) ≡ map (λ j. term_at l.store.terms j.0) (take l.i l.parts)
