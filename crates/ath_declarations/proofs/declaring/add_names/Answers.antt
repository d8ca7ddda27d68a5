use Rattle.std.proofs.Common.{◌∙◌, sym}
use Rattle.ath_declarations.proofs.Joins.{added_by, joins_next}
use Rattle.ath_declarations.proofs.declaring.add_names.Goals as goal

pub loop-name-preserved : goal.loop-name-preserved
loop-name-preserved c =
    let a = added_by c.add_symbol-added.result _ _ _ _ (sym c.is_err.ensures.value ∙ c.if-is_err.false) c.add_symbol-added.ensures.answer c.add_symbol-added.ensures.after in
    joins_next c.args.shape.now.params.items c.args.shape.now.args.items c.args.shape.now.result c.args.sig.now c.args.names.now c.loop-name.name-index (record { 0 = 0 }) c.loop-name.sig c.loop-name-test.true c.loop-name.invariant c.add_symbol-added.new.self a.1 a.0
