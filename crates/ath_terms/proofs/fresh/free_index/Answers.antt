use Rattle.std.proofs.Common.{◌^◌, sym, ◌∙◌, arith}
use Rattle.ath_terms.proofs.FreshLaws.{taken_below, taken_more}
use Rattle.ath_terms.proofs.fresh.free_index.Goals as goal

pub loop-name-preserved : goal.loop-name-preserved
loop-name-preserved c =
    let e = c.is_taken.ensures in
    let t = c.loop-name-test.true in
    let b = taken_below (2 ^ 62) c.args.taken.now c.args.name c.loop-name.index c.requires.indices (sym e ∙ t) in
    let i = c.loop-name.invariant in
    (omega arith, omega arith, taken_more c.args.taken.now c.args.name c.args.counter c.loop-name.index i.2 (sym e ∙ t))
