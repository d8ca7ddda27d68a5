use Rattle.std.proofs.Common.{◌∙◌, sym, ap}
use Rattle.std.specs.List.{flat_map}
use Rattle.ath_declarations.specs.Steps.{noting}
use Rattle.ath_declarations.specs.Texts.{written_in}
use Rattle.ath_declarations.proofs.Parameters.{notes_next, notes_all}
use Rattle.ath_declarations.proofs.Places.{written_con}
use Rattle.ath_declarations.proofs.params.+note.Goals as goal

pub loop-arg-preserved : goal.loop-arg-preserved
loop-arg-preserved t c = notes_next c.as_slice-arg-items.result.now c.loop-arg.arg-index c.arg-item.result c.loop-arg.seen.keys c.note.new.seen.keys _ c.loop-arg-test.true c.arg-item.is c.loop-arg.invariant c.in_ok-note-in-Con.ensures

pub returns-after-loop-arg : goal.returns-after-loop-arg
returns-after-loop-arg t c =
    notes_all c.as_slice-arg-items.result.now c.loop-arg.arg-index c.loop-arg.seen.keys _ c.loop-arg-test.false c.loop-arg.invariant
    ∙ ap (λ ns. noting c.args.seen.now.keys ns) (ap (flat_map written_in) c.as_slice-arg-items.ensures ∙ sym (ap written_in c.in-Con.is ∙ written_con c.in-Con.field-0 c.in-Con.args))
