use Rattle.ath_eval.proofs.calls.call.Goals as goal

pub returns-in_ok-outcome-in-PrimMethod-clause-outcome : goal.returns-in_ok-outcome-in-PrimMethod-clause-outcome
returns-in_ok-outcome-in-PrimMethod-clause-outcome c = λ d rec. rw c.in-PrimMethod.is c.in_ok-outcome-in-PrimMethod.ensures.outcome
