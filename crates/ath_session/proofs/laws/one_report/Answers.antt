use Rattle.ath_reader.proofs.OneNext.{one_next}
use Rattle.ath_session.proofs.RunLaws.{one_report}
use Rattle.ath_session.proofs.laws.one_report.Goals as goal

pub returns : goal.returns
returns c = one_report one_next
