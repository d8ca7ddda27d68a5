use Rattle.std.proofs.Common.{◌≡◌, take, map}
use Rattle.ath_terms.specs.Trees.{sent_at}
use Rattle.ath_terms.proofs.equality.+is_same_sent.Given as goal

abbrev pub decreases-is_same_sent : goal.decreases-is_same_sent
decreases-is_same_sent l = l.p.0

abbrev pub invariant-loop-i : goal.invariant-loop-i
invariant-loop-i l = map (λ j. sent_at l.store.sents j.0) (take l.i l.xs) ≡ map (λ j. sent_at l.store.sents j.0) (take l.i l.ys)
