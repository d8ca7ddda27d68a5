-- Ids that stand for trees, one by one.
use Rattle.std.specs.Prelude.{List, [], ◌∷◌}
use Rattle.ath_trees.specs.declared.node.TermId.{TermId}
use Rattle.ath_trees.specs.declared.node.SentId.{SentId}
use Rattle.ath_trees.specs.Tree.{Term, Sent}
use Rattle.ath_terms.specs.Trees.{Trees, IsTerm, IsSent}

abbrev pub AreTerms : Trees → List TermId → List Term → Type 0
AreTerms s [] [] = Unit {0}
AreTerms s (t ∷ ts) (x ∷ xs) = IsTerm s t.0 x × AreTerms s ts xs
AreTerms s [] (x ∷ xs) = ⊥
AreTerms s (t ∷ ts) [] = ⊥

abbrev pub AreSents : Trees → List SentId → List Sent → Type 0
AreSents s [] [] = Unit {0}
AreSents s (p ∷ ps) (x ∷ xs) = IsSent s p.0 x × AreSents s ps xs
AreSents s [] (x ∷ xs) = ⊥
AreSents s (p ∷ ps) [] = ⊥
