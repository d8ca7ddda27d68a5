use Rattle.ath_calculus.specs.Derives.{if_intro, if_elim}
use Rattle.ath_calculus.proofs.laws.cut.Goals as goal

pub returns : goal.returns
returns c = λ th asserted hyps p q d e. if_elim (if_intro e) d
