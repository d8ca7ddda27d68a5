use Rattle.std.proofs.Common.{sym, ◌∙◌, ap, map}
use Rattle.std.proofs.lemmas.Simd.{map-map}
use Rattle.ath_print.specs.declared.fault.FaultArg.{FaultArg}
use Rattle.ath_print.specs.Printers.{spaced, line_in, after}
use Rattle.ath_print.specs.Lines.{argument_printed}
use Rattle.ath_print.specs.Stands.{argument_of}
use Rattle.ath_print.proofs.PieceLaws.{spaced_done}
use Rattle.ath_print.proofs.lines.put_arguments.Goals as goal

pub returns : goal.returns
returns c =
    let looped = spaced_done (λ (a : FaultArg). argument_printed c.args.names.now c.args.sig.now (argument_of c.args.store.now a)) c.as_slice-arg-items.result.now c.loop-arg.arg-index (line_in c.args.draft.now) (line_in c.loop-arg.draft) c.loop-arg.invariant c.loop-arg-test.false in
    looped ∙ ap (λ ps. after (spaced ps) (line_in c.args.draft.now)) (ap (map _) c.as_slice-arg-items.ensures ∙ sym (map-map (argument_printed c.args.names.now c.args.sig.now) (argument_of c.args.store.now) c.args.fault.now.args))
