use Rattle.std.proofs.Common.{◌≡◌, rules}
use Rattle.ath_trees.specs.Tree.{conn_of}
use Rattle.ath_prims.proofs.Finding.{two-sides}
use Rattle.ath_prims.proofs.shapes.sides.Goals as goal

pub returns-else-ne : goal.returns-else-ne
returns-else-ne c = let a = c.args in
    let e : c.in-Conn.conn ≡ conn_of a.connective = search rules in
    two-sides a.store.now a.connective a.p.0 c.requires c.sent.result.now c.in-Conn.conn c.in-Conn.parts c.as_slice-parts.result.now _ _ c.in-Conn.is c.sent.ensures.tree c.sent.ensures.below e c.as_slice-parts.ensures
