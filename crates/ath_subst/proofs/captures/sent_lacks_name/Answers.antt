use Rattle.ath_subst.proofs.CaptureLaws.{sent-unnamed}
use Rattle.ath_subst.proofs.captures.sent_lacks_name.Goals as goal

pub returns : goal.returns
returns c = λ e. sent-unnamed c.args.store.now c.sent_marks-marks.result c.args.x.now c.may_have.result c.may_have.ensures e c.args.p.0 c.sent_marks-marks.ensures
