use Rattle.ath_names.specs.Names.{KeepsNames, first_names}
use Rattle.ath_reader_tests.proofs.reading.gives.Given as goal

abbrev pub invariant-loop-words : goal.invariant-loop-words
invariant-loop-words l = KeepsNames first_names l.names
