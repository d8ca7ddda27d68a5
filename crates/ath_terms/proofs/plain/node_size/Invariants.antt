use Rattle.std.proofs.Common.{◌≡◌, ◌+◌, ◌*◌, ◌≤◌, take}
use Rattle.ath_trees.specs.Measure.{sent_size}
use Rattle.ath_terms.specs.Trees.{sent_at}
use Rattle.ath_terms.proofs.Measures.{total}
use Rattle.ath_terms.proofs.plain.node_size.Given as goal

abbrev pub invariant-loop-i : goal.invariant-loop-i
invariant-loop-i l = (l.nodes ≡ 1 + total (λ j. sent_size (sent_at l.store.sents j.0)) (take l.i l.parts)) × (l.nodes ≤ 1 + 100000 * l.i)
