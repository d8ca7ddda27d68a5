use Rattle.ath_eval.proofs.Sound.{conclusions-follow, values-sorted}
use Rattle.ath_session.proofs.Sound.{each_report_is_believed}
use Rattle.ath_session.proofs.laws.each_report_is_believed.Goals as goal

pub returns : goal.returns
returns c = each_report_is_believed conclusions-follow values-sorted
