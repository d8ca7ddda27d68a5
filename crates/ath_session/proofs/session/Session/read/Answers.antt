use Rattle.ath_names.specs.Names.{first_names}
use Rattle.ath_session.proofs.SessionLaws.{begins, begins_still}
use Rattle.ath_session.proofs.Differ.{answer_differs}
use Rattle.ath_session.proofs.session.Session.read.Goals as goal

pub directive-requires : goal.directive-requires
directive-requires c = begins first_names c.args.self.now.world.names c.args.self.now.table

pub invariant_of-self : goal.invariant_of-self
invariant_of-self c = record {
  table = begins_still first_names c.args.self.now.world.names c.directive.new.names c.args.self.now.table c.directive.ensures.names;
}

pub returns-clause-differ : goal.returns-clause-differ
returns-clause-differ c =
    answer_differs c.args.reader.now c.args.reader.now.progress c.args.self.now.world.names c.args.self.now.world.phrases c.directive.result c.directive.new.self c.directive.new.names c.directive.new.phrases c.directive.ensures.answers
