use Rattle.std.proofs.Common.{◌≡◌, ◌+◌, take}
use Rattle.ath_terms.proofs.Measures.{total, most}
use Rattle.ath_terms.specs.Trees.{term_at, sent_at}
use Rattle.ath_trees.specs.Measure.{sent_size, sent_depth}
use Rattle.ath_trees.specs.Substitution.{subst_sent}
use Rattle.ath_subst.proofs.counts.+sent_counts.Given as goal

abbrev pub decreases-sent_counts : goal.decreases-sent_counts
decreases-sent_counts l = l.p.0

abbrev pub invariant-loop-i : goal.invariant-loop-i
invariant-loop-i l = record {
  nodes : l.nodes ≡ 1 + total (λ j. sent_size (subst_sent l.x (term_at l.store.terms l.by.0) (sent_at l.store.sents j.0))) (take l.i l.parts);
  levels : l.levels ≡ most (λ j. sent_depth (subst_sent l.x (term_at l.store.terms l.by.0) (sent_at l.store.sents j.0))) (take l.i l.parts);
}
