use Rattle.std.proofs.Common.{◌≡◌, ◌+◌, take}
use Rattle.ath_terms.proofs.Measures.{total, most}
use Rattle.ath_trees.specs.Measure.{term_size, term_depth}
use Rattle.ath_subst.proofs.PuttingLaws.{img}
use Rattle.ath_subst.proofs.counts.+term_counts.Given as goal

abbrev pub decreases-term_counts : goal.decreases-term_counts
decreases-term_counts l = l.t.0

abbrev pub invariant-loop-i : goal.invariant-loop-i
invariant-loop-i l = record {
  nodes : l.nodes ≡ 1 + total (λ j. term_size (img l.store l.x l.by.0 j)) (take l.i l.parts);
  levels : l.levels ≡ most (λ j. term_depth (img l.store l.x l.by.0 j)) (take l.i l.parts);
}
