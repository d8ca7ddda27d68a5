use Rattle.ath_unifiers.proofs.Outcomes as outcomes
use Rattle.ath_unifiers.proofs.laws.answers_agree.Goals as goal

pub returns : goal.returns
returns c pairs answer m = outcomes.answers_agree pairs answer m
