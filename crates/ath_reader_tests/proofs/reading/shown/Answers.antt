use Rattle.ath_reader_tests.proofs.Standing.{number_there}
use Rattle.ath_reader_tests.proofs.reading.shown.Goals as goal

pub node-node-requires : goal.node-node-requires
node-node-requires c = number_there c.args.phrases.now c.args.directive.now c.in-Phrase.number c.in-Phrase.is c.requires
