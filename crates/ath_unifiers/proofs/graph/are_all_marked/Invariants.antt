use Rattle.std.proofs.Common.{◌≡◌, drop}
use Rattle.std.specs.List.{list_all}
use Rattle.ath_unifiers.specs.Graphs.{is_marked}
use Rattle.ath_unifiers.proofs.graph.are_all_marked.Given as goal

abbrev pub invariant-loop-child : goal.invariant-loop-child
invariant-loop-child l = list_all (is_marked l.grown) l.children ≡ list_all (is_marked l.grown) (drop l.child-index l.children)
