use Rattle.std.proofs.Common.{◌≡◌, ◌≤◌, take}
use Rattle.ath_trees.specs.Measure.{sent_depth}
use Rattle.ath_terms.specs.Trees.{sent_at}
use Rattle.ath_terms.proofs.Measures.{most}
use Rattle.ath_terms.proofs.plain.node_depth.Given as goal

abbrev pub invariant-loop-i : goal.invariant-loop-i
invariant-loop-i l = (l.levels ≡ most (λ j. sent_depth (sent_at l.store.sents j.0)) (take l.i l.parts)) × (l.levels ≤ 2000)
