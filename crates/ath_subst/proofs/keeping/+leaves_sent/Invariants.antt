use Rattle.std.proofs.Common.{◌≡◌, take, map}
use Rattle.ath_sorts.specs.Sorts.{image}
use Rattle.ath_trees.specs.Under.{sent_under}
use Rattle.ath_terms.specs.Trees.{sent_at}
use Rattle.ath_subst.proofs.keeping.+leaves_sent.Given as goal

abbrev pub decreases-leaves_sent : goal.decreases-leaves_sent
decreases-leaves_sent l = l.p.0

abbrev pub invariant-loop-i : goal.invariant-loop-i
invariant-loop-i l = map (λ j. sent_under (image l.subst) (sent_at l.store.sents j.0)) (take l.i l.parts) ≡ map (λ j. sent_at l.store.sents j.0) (take l.i l.parts)
