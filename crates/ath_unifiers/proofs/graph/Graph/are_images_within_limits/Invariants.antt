use Rattle.std.proofs.Common.{◌≡◌, ℕ, ◌<◌, slice_get, Some, IsTrue}
use Rattle.ath_unifiers.specs.declared.nodes.Node.TheVariants.{Leaf}
use Rattle.ath_sorts.specs.declared.sorts.SVar.{SVar}
use Rattle.ath_sorts.specs.declared.sorts.Sort.{Sort}
use Rattle.ath_sorts.specs.Sorts.{is_small}
use Rattle.ath_unifiers.specs.Graphs.{Unfolds}
use Rattle.ath_unifiers.proofs.graph.Graph.are_images_within_limits.Given as goal

abbrev pub invariant-loop-at : goal.invariant-loop-at
invariant-loop-at l = (i : ℕ) (v : SVar) (t : Sort) → i < l.at → slice_get l.self.nodes i ≡ Some (Leaf v) → Unfolds l.self i t → IsTrue (is_small t)
