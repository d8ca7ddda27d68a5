use Rattle.ath_eval.proofs.Answering.{sent_answer, sent_refused}
use Rattle.ath_eval.proofs.building.sentence_made.Goals as goal

pub returns-in-Ok : goal.returns-in-Ok
returns-in-Ok c = λ s b h. sent_answer s c.args.at b c.args.made c.in-Ok.p c.in-Ok.is h

pub returns-in_ok-outcome-in-Err : goal.returns-in_ok-outcome-in-Err
returns-in_ok-outcome-in-Err c = λ s b h. sent_refused s c.args.at b c.args.made c.in-Err.error c.in_ok-outcome-in-Err.outcome c.in-Err.is h c.in_ok-outcome-in-Err.ensures.memory (c.in_ok-outcome-in-Err.ensures.outcome s)
