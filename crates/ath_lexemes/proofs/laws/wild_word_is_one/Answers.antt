use Rattle.ath_lexemes.proofs.LexemeLaws.{wild_is_one}
use Rattle.ath_lexemes.proofs.laws.wild_word_is_one.Goals as goal

pub returns : goal.returns
returns c = wild_is_one
