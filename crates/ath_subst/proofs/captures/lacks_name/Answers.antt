use Rattle.ath_subst.proofs.CaptureLaws.{term-unnamed}
use Rattle.ath_subst.proofs.captures.lacks_name.Goals as goal

pub returns : goal.returns
returns c = λ e. term-unnamed c.args.store.now c.marks-marks.result c.args.x.now c.may_have.result c.may_have.ensures e c.args.t.0 c.marks-marks.ensures
