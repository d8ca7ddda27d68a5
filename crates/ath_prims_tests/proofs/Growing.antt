-- Arguments stay arguments while the store grows.
use Rattle.std.proofs.Common.{◌≡◌, ◌<◌, List, ◌∷◌, [], ◌++◌, length, Option, Some, None, arith}
use Rattle.std.specs.Prelude.{Ok, Err, Result}
use Rattle.std.specs.List.{All}
use Rattle.std.proofs.lemmas.List.Elements.{All-push, All-weaker}
use Rattle.ath_trees.specs.declared.node.SentId.{SentId}
use Rattle.ath_terms.specs.Trees.{Trees, Grows}
use Rattle.ath_prims.specs.declared.applying.Argument.{Argument}
use Rattle.ath_prims.specs.declared.applying.PrimError.{PrimError}
use Rattle.ath_prims.specs.declared.applying.PrimError.TheVariants.{NotInBase}
use Rattle.ath_prims.specs.Applied.{Answer, miscounted, wrong_kind, wrong_shape, not_in_base, concludes}
use Rattle.ath_prims.specs.Stands.{IsIn, IsArgument, IsAnswer}

module _ (s t : Trees) (g : Grows s t) where
  in-grows : (o : Option SentId) → IsIn s o → IsIn t o
  in-grows None h = tt
  in-grows (Some p) h = omega (arith, h, g.sents)

  pub arguments-push : (xs : List Argument) (x : Argument) → All (IsArgument s) xs → IsIn t x.sentence → All (IsArgument t) (xs ++ x ∷ [])
  arguments-push xs x h k = All-push (IsArgument t) xs x (All-weaker (IsArgument s) (IsArgument t) (λ y i. in-grows y.sentence i) xs h) k

pub answer-inside : (s : Trees) (o : Answer) (p : SentId) → IsAnswer s o (Ok p) → p.0 < length s.sents
answer-inside s (concludes x) p h = h.0
answer-inside s (miscounted k n) p h = absurd h
answer-inside s (wrong_kind i) p h = absurd h
answer-inside s (wrong_shape i) p h = absurd h
answer-inside s (not_in_base x) p h = absurd h

pub missing-inside : (s : Trees) (o : Answer) (p : SentId) → IsAnswer s o (Err (NotInBase p)) → p.0 < length s.sents
missing-inside s (not_in_base x) p h = h.0
missing-inside s (concludes x) p h = absurd h
missing-inside s (miscounted k n) p h = absurd h
missing-inside s (wrong_kind i) p h = absurd h
missing-inside s (wrong_shape i) p h = absurd h
