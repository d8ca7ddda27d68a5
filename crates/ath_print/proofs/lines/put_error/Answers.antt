use Rattle.std.proofs.Common.{map}
use Rattle.ath_print.specs.Printers.{spaced}
use Rattle.ath_print.specs.Lines.{kind_text, argument_printed}
use Rattle.ath_print.specs.Stands.{argument_of}
use Rattle.ath_print.proofs.LineLaws.{told_error}
use Rattle.ath_print.proofs.lines.put_error.Goals as goal

pub returns : goal.returns
returns c =
    let parts = spaced (map (argument_printed c.args.names.now c.args.sig.now) (map (argument_of c.args.store.now) c.args.fault.now.args)) in
    told_error c.args.draft.now c.requires.fresh _ _ _ (kind_text c.args.fault.now.kind) parts _ _ _ _ c.in_ok-put.ensures c.in_ok-put_place.ensures c.in_ok-put-2.ensures c.in_ok-put_fault.ensures
