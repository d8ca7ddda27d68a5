use Rattle.std.proofs.Common.{Option, sym, ap}
use Rattle.std.specs.Prelude.{unwrap_or}
use Rattle.ath_trees.specs.Tree.{Sent}
use Rattle.ath_calculus.specs.Derives.{truth}
use Rattle.ath_prims.specs.Applied.{found}
use Rattle.ath_prims.specs.Stands.{parts_at}
use Rattle.ath_prims.proofs.Finding.{found-some}
use Rattle.ath_prims.proofs.conclude.part.Goals as goal

pub returns-in-Some-clause-tree : goal.returns-in-Some-clause-tree
returns-in-Some-clause-tree c = let a = c.args in let s = a.store.now in
    let h = found-some s c.found.result c.in-Some.p (found a.name (parts_at s a.bindings)) (c.found.ensures s c.requires) c.in-Some.is in
    (h.0, sym (ap (λ (o : Option Sent). unwrap_or o truth) h.1))
