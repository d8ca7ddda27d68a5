use Rattle.std.proofs.Common.{◌∙◌, ap}
use Rattle.ath_declarations.specs.Steps.{noting}
use Rattle.ath_declarations.specs.Texts.{written_in}
use Rattle.ath_declarations.proofs.Parameters.{notes_next, notes_all, noting_last}
use Rattle.ath_declarations.proofs.params.written_over.Goals as goal

pub loop-arg-preserved : goal.loop-arg-preserved
loop-arg-preserved c = notes_next c.args.args.now c.loop-arg.arg-index c.arg-item.result c.loop-arg.seen.keys c.note.new.seen.keys _ c.loop-arg-test.true c.arg-item.is c.loop-arg.invariant c.in_ok-note.ensures

pub returns : goal.returns
returns c =
    let is = notes_all c.args.args.now c.loop-arg.arg-index c.loop-arg.seen.keys _ c.loop-arg-test.false c.loop-arg.invariant in
    c.in_ok-params.ensures.items
    ∙ c.as_slice.ensures.keys
    ∙ c.in_ok-note-2.ensures
    ∙ ap (λ ks. noting ks (written_in c.args.result_sort.now)) is
    ∙ noting_last c.args.args.now c.args.result_sort.now
