use Rattle.std.proofs.Common.{◌∙◌, ap, max, arith}
use Rattle.ath_terms.proofs.ListLaws.{depths-next, depths-all}
use Rattle.ath_terms.proofs.plain.list_depth.Goals as goal

pub loop-i-preserved : goal.loop-i-preserved
loop-i-preserved c =
    let s = c.depth.ensures.few in
    let e = c.depth.ensures.same in
    let m = c.max-levels.ensures in
    let i = c.loop-i.invariant in
    (m ∙ ap (max c.loop-i.levels) e ∙ depths-next c.args.store.now.terms c.args.args.now c.loop-i.i (record { 0 = 0 }) c.loop-i.levels (omega arith) i.0, omega arith)

pub returns-clause-same : goal.returns-clause-same
returns-clause-same c = depths-all c.args.store.now.terms c.args.args.now c.loop-i.i c.loop-i.levels (omega arith) c.loop-i.invariant.0
