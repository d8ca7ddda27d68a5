use Rattle.std.proofs.Common.{refl}
use Rattle.ath_eval.proofs.refusals.unbuilt.Goals as goal

pub returns-clause-outcome : goal.returns-clause-outcome
returns-clause-outcome c = λ s why h fresh fuel. (refl, c.in_ok-fault.ensures.fault s why h, refl, refl)
