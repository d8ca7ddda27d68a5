use Rattle.std.proofs.Common.{◌≡◌, fold, map, take}
use Rattle.ath_names.specs.Names.{interned}
use Rattle.ath_names.proofs.Names.add_words.Given as goal

abbrev pub invariant-loop-word : goal.invariant-loop-word
invariant-loop-word l = l.self ≡ fold interned l.initial.self (map (λ word. word.now) (take l.word-index l.words))
