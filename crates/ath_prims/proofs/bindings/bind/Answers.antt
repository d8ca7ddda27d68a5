use Rattle.ath_prims.specs.Applied.{found}
use Rattle.ath_prims.specs.Stands.{parts_at}
use Rattle.ath_prims.proofs.Finding.{found-some}
use Rattle.ath_prims.proofs.bindings.bind.Goals as goal

pub is_alpha_equal-requires-clause-left : goal.is_alpha_equal-requires-clause-left
is_alpha_equal-requires-clause-left c = let a = c.args in let s = a.store.now in
    (found-some s c.found.result c.in-Some.q (found a.part (parts_at s a.bindings)) (c.found.ensures s c.requires.inside) c.in-Some.is).0
