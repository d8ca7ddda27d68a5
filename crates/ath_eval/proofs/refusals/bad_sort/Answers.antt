use Rattle.std.proofs.Common.{refl}
use Rattle.ath_eval.proofs.refusals.bad_sort.Goals as goal

pub returns-clause-outcome : goal.returns-clause-outcome
returns-clause-outcome c = λ s fresh fuel. (refl, c.in_ok-fault.ensures.fault s, refl, refl)
