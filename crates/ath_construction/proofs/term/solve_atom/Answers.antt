use Rattle.std.proofs.Common.{refl}
use Rattle.ath_construction.proofs.term.solve_atom.Goals as goal

pub returns-then-at-eq0 : goal.returns-then-at-eq0
returns-then-at-eq0 c =
    let h = rw c.in-Err-Clash.field-0-is at c.in-Err-Clash.ensures in
    (refl, rw c.if-at-eq0.true at h)
