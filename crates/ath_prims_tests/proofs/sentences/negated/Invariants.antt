use Rattle.std.proofs.Common.{◌<◌, length}
use Rattle.ath_prims_tests.proofs.sentences.negated.Given as goal

abbrev pub invariant-loop : goal.invariant-loop
invariant-loop l = l.whole.0 < length l.store.sents
