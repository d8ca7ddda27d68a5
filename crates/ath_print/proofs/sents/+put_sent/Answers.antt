use Rattle.std.proofs.Common.{map, length, get_or, ap, ◌∙◌, arith}
use Rattle.std.proofs.lemmas.List.{map-append}
use Rattle.ath_trees.specs.declared.node.SentId.{SentId}
use Rattle.ath_terms.specs.Trees.{sent_at}
use Rattle.ath_print.specs.Prefix.{sent_printed}
use Rattle.ath_print.specs.Printers.{line_in, after}
use Rattle.ath_print.proofs.PieceLaws.{spaced_next, spaced_done}
use Rattle.ath_print.proofs.PrefixLaws.{equation_done, conn_done, quant_done}
use Rattle.ath_print.proofs.Searches.{last_off}
use Rattle.ath_print.proofs.sents.+put_sent.Goals as goal

pub returns-in_ok-put-in-Conn-4-clause-text : goal.returns-in_ok-put-in-Conn-4-clause-text
returns-in_ok-put-in-Conn-4-clause-text t c =
    let binders = map (λ b. b.now) c.args.binders.now.items in
    let looped = spaced_done (λ (q : SentId). sent_printed c.args.names.now c.args.sig.now binders (sent_at c.args.store.now.sents q.0)) c.as_slice-part-items.result.now c.loop-part.part-index (line_in c.put-in-Conn.new.draft) (line_in c.loop-part.draft) c.loop-part.invariant.1 c.loop-part-test.false in
    conn_done c.args.names.now c.args.sig.now binders c.args.store.now c.args.p.0 c.sent.result.now (length c.args.store.now.terms) c.args.p.0 c.sent.ensures.tree c.sent.ensures.below c.in-Conn.conn c.in-Conn.parts c.as_slice-part-items.result.now c.connective.result.now _ _ _ _ _ c.in-Conn.is c.as_slice-part-items.ensures c.connective.ensures c.in_ok-put-in-Conn.ensures c.in_ok-put-in-Conn-2.ensures looped c.in_ok-put-in-Conn-4.ensures

pub returns-in_ok-put-in-Quant-clause-binders : goal.returns-in_ok-put-in-Quant-clause-binders
returns-in_ok-put-in-Quant-clause-binders t c = last_off (λ b. b.now) c.args.binders.now.items c.push.new.self.items c.put_sent-in-Quant.new.binders.items c.pop.new.self.items _ c.put_sent-in-Quant.new.binders.len c.in_ok-push-in-Quant.ensures.items c.in_ok-put_sent-in-Quant.ensures.binders (omega (arith, c.put_sent-in-Quant.new.binders.ok.0)) c.pop.ensures.rest

pub returns-in_ok-put-in-Quant-clause-text : goal.returns-in_ok-put-in-Quant-clause-text
returns-in_ok-put-in-Quant-clause-text t c =
    let binders = map (λ b. b.now) c.args.binders.now.items in
    quant_done c.args.names.now c.args.sig.now binders c.args.store.now c.args.p.0 c.sent.result.now (length c.args.store.now.terms) c.args.p.0 c.sent.ensures.tree c.sent.ensures.below c.in-Quant.quant c.in-Quant.v c.in-Quant.body _ _ _ _ _ c.in-Quant.is (ap (map (λ b. b.now)) c.in_ok-push-in-Quant.ensures.items ∙ map-append (λ b. b.now) c.args.binders.now.items _) c.in_ok-put_binder-in-Quant.ensures c.in_ok-put_sent-in-Quant.ensures.text c.in_ok-put-in-Quant.ensures

pub returns-in_ok-put_equation-in-Eq-clause-text : goal.returns-in_ok-put_equation-in-Eq-clause-text
returns-in_ok-put_equation-in-Eq-clause-text t c =
    let binders = map (λ b. b.now) c.args.binders.now.items in
    equation_done c.args.names.now c.args.sig.now binders c.args.store.now c.args.p.0 c.sent.result.now (length c.args.store.now.terms) c.args.p.0 c.sent.ensures.tree c.sent.ensures.below c.in-Eq.s c.in-Eq.t _ _ _ c.in-Eq.is (ap (map (λ b. b.now)) c.as_slice-in-Eq.ensures.value) c.in_ok-put_equation-in-Eq.ensures

pub loop-part-preserved : goal.loop-part-preserved
loop-part-preserved t c =
    let sent = sent_at c.args.store.now.sents (get_or c.as_slice-part-items.result.now c.loop-part.part-index (record { 0 = 0 })).0 in
    let binders = map (λ b. b.now) c.args.binders.now.items in
    let text = c.in_ok-put_sent-in-Conn.ensures.text ∙ ap (λ bs. after (sent_printed c.args.names.now c.args.sig.now bs sent) (line_in c.put-in-loop-part.new.draft)) c.loop-part.invariant.0 in (
      c.in_ok-put_sent-in-Conn.ensures.binders ∙ c.loop-part.invariant.0,
      spaced_next (λ (q : SentId). sent_printed c.args.names.now c.args.sig.now binders (sent_at c.args.store.now.sents q.0)) c.as_slice-part-items.result.now c.loop-part.part-index (line_in c.put-in-Conn.new.draft) (line_in c.loop-part.draft) c.loop-part.invariant.1 (record { 0 = 0 }) _ _ c.loop-part-test.true c.in_ok-put-in-Conn-3.ensures text,
    )
