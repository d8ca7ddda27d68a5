use Rattle.std.proofs.Common.{◌≡◌, ℕ, ◌<◌, ◌⊎◌, length, false, true, IsTrue}
use Rattle.ath_unifiers.specs.Graphs.{MarksTrees, is_marked, is_ready, unmarked}
use Rattle.ath_unifiers.proofs.graph.Graph.grow.Given as goal

abbrev pub invariant-loop-at : goal.invariant-loop-at
invariant-loop-at l = record {
  trees : MarksTrees l.self l.initial.grown.items → MarksTrees l.self l.grown.items;
  even : length l.grown.items ≡ length l.initial.grown.items;
  fewer : l.any ≡ true → unmarked l.grown.items < unmarked l.initial.grown.items;
  same : l.any ≡ false → l.grown.items ≡ l.initial.grown.items;
  stuck : l.any ≡ false → (i : ℕ) → i < l.at → IsTrue (is_marked l.grown.items i) ⊎ (is_ready l.self l.grown.items i ≡ false);
}
