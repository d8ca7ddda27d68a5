use Rattle.ath_eval.proofs.names.ascribe.Goals as goal

pub returns-in_ok-outcome-in-Term-clause-outcome : goal.returns-in_ok-outcome-in-Term-clause-outcome
returns-in_ok-outcome-in-Term-clause-outcome c = λ text h. rw c.in-Term.is (c.in_ok-outcome-in-Term.ensures.outcome text h)
