use Rattle.ath_session.proofs.Existence.{some_report}
use Rattle.ath_session.proofs.laws.some_report.Goals as goal

pub returns : goal.returns
returns c = some_report
