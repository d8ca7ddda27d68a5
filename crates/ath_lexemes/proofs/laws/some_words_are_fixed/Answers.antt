use Rattle.ath_lexemes.proofs.LexemeLaws.{some_words}
use Rattle.ath_lexemes.proofs.laws.some_words_are_fixed.Goals as goal

pub returns : goal.returns
returns c = some_words
