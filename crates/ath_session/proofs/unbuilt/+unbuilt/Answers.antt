use Rattle.std.proofs.Common.{◌∙◌, sym, arith}
use Rattle.ath_session.proofs.UnbuiltLaws.{unbuilt_here, built_init, next_part, found_unbuilt, built_next, all_built}
use Rattle.ath_session.proofs.unbuilt.+unbuilt.Goals as goal

pub returns-in_default : goal.returns-in_default
returns-in_default t c = λ x h.
    unbuilt_here c.args.phrases.now c.args.names.now c.args.phrase c.node.result.now c.node.ensures.node x h (c.in_default.ensures.parts x h)

pub loop-part-init : goal.loop-part-init
loop-part-init t c = built_init c.args.phrases.now c.args.names.now c.args.phrase c.in-Some.parts.now c.requires c.in-Some.ensures.parts

pub unbuilt-found-requires : goal.unbuilt-found-requires
unbuilt-found-requires t c =
    let below = c.in-Some.ensures.smaller c.loop-part.part-index (record { 0 = 0 }) (omega arith) in
    (rw c.decreases at below, next_part c.args.phrases.now c.args.names.now c.args.phrase c.in-Some.parts.now c.loop-part.part-index _ (omega arith) c.loop-part.invariant)

pub returns-then-is_some : goal.returns-then-is_some
returns-then-is_some t c = found_unbuilt c.args.phrases.now c.args.names.now c.args.phrase c.in-Some.parts.now c.loop-part.part-index _ c.unbuilt-found.result (sym c.is_some.ensures ∙ c.if-is_some.true) (omega arith) c.loop-part.invariant c.unbuilt-found.ensures

pub loop-part-preserved : goal.loop-part-preserved
loop-part-preserved t c = built_next c.args.phrases.now c.args.names.now c.args.phrase c.in-Some.parts.now c.loop-part.part-index _ c.unbuilt-found.result (sym c.is_some.ensures ∙ c.if-is_some.false) (omega arith) c.loop-part.invariant c.unbuilt-found.ensures

pub returns : goal.returns
returns t c = all_built c.args.phrases.now c.args.names.now c.args.phrase c.in-Some.parts.now c.loop-part.part-index (omega arith) c.loop-part.invariant
