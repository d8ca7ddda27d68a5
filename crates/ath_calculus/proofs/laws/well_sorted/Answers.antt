use Rattle.ath_calculus.proofs.Grown as grown
use Rattle.ath_calculus.proofs.laws.well_sorted.Goals as goal

pub returns : goal.returns
returns c = λ sig asserted hyps p d. grown.well_sorted d
