use Rattle.ath_eval.proofs.Answering.{term_answer, term_refused}
use Rattle.ath_eval.proofs.building.term_made.Goals as goal

pub returns-in-Ok : goal.returns-in-Ok
returns-in-Ok c = λ sig s b h. term_answer s c.args.at sig b c.args.made c.in-Ok.t c.in-Ok.is h

pub returns-in_ok-outcome-in-Err : goal.returns-in_ok-outcome-in-Err
returns-in_ok-outcome-in-Err c = λ sig s b h. term_refused s c.args.at sig b c.args.made c.in-Err.error c.in_ok-outcome-in-Err.outcome c.in-Err.is h c.in_ok-outcome-in-Err.ensures.memory (c.in_ok-outcome-in-Err.ensures.outcome s)
