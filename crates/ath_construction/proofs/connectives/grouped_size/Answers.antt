use Rattle.std.proofs.Common.{◌∙◌, ap, ◌+◌, arith}
use Rattle.ath_construction.proofs.GroupLaws.{nodes-next, nodes-all}
use Rattle.ath_construction.proofs.connectives.grouped_size.Goals as goal

pub loop-i-preserved : goal.loop-i-preserved
loop-i-preserved c =
    let n = nodes-next c.args.store.now.sents c.args.parts.now c.loop-i.i (record { 0 = 0 }) c.loop-i.nodes (omega arith) c.loop-i.invariant.0 in
    let s = c.sent_size.ensures.few in
    let r = c.loop-i.invariant.1 in
    (ap (λ k. c.loop-i.nodes + (1 + k)) c.sent_size.ensures.same ∙ n, omega arith)

pub returns : goal.returns
returns c = λ k. nodes-all c.args.store.now.sents c.args.parts.now k c.loop-i.i c.loop-i.nodes c.requires.some (omega arith) c.loop-i.invariant.0
