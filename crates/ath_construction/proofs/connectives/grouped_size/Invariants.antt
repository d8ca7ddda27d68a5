use Rattle.std.proofs.Common.{◌≡◌, ◌+◌, ◌*◌, ◌≤◌, take}
use Rattle.ath_trees.specs.Measure.{sent_size}
use Rattle.ath_terms.specs.Trees.{sent_at}
use Rattle.ath_terms.proofs.Measures.{total}
use Rattle.ath_construction.proofs.connectives.grouped_size.Given as goal

abbrev pub invariant-loop-i : goal.invariant-loop-i
invariant-loop-i l = (l.nodes ≡ total (λ j. 1 + sent_size (sent_at l.store.sents j.0)) (take l.i l.parts)) × (l.nodes ≤ 100001 * l.i)
