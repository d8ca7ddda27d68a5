use Rattle.std.proofs.Common.{◌∙◌, ap, ◌+◌, arith}
use Rattle.ath_terms.proofs.ListLaws.{sizes-next, sizes-all}
use Rattle.ath_terms.proofs.plain.list_size.Goals as goal

pub loop-i-preserved : goal.loop-i-preserved
loop-i-preserved c =
    let n = sizes-next c.args.store.now.terms c.args.args.now c.loop-i.i (record { 0 = 0 }) c.loop-i.nodes (omega arith) c.loop-i.invariant.0 in
    let s = c.size-nodes.ensures.few in
    let r = c.loop-i.invariant.1 in
    (ap (λ k. c.loop-i.nodes + k) c.size-nodes.ensures.same ∙ n, omega arith)

pub returns-clause-same : goal.returns-clause-same
returns-clause-same c = sizes-all c.args.store.now.terms c.args.args.now c.loop-i.i c.loop-i.nodes (omega arith) c.loop-i.invariant.0
