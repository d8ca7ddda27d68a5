use Rattle.std.proofs.Common.{Option, Ok, subst}
use Rattle.ath_syntax.specs.declared.directive.Directive.{Directive}
use Rattle.ath_names.proofs.NamesLaws.{KeepsNames-trans}
use Rattle.ath_reader.specs.Answering.{Answers}
use Rattle.ath_reader_tests.proofs.Standing.{answers_stand}
use Rattle.ath_reader_tests.proofs.reading.next.Goals as goal

pub shown-requires : goal.shown-requires
shown-requires c =
    let r = c.args.reader.now in
    answers_stand r r.progress c.args.names.now c.args.phrases.now c.in-Ok-Some.directive c.directive.new.self c.directive.new.names c.directive.new.phrases
    (subst (λ (o : Option Directive). Answers r r.progress c.args.names.now c.args.phrases.now (Ok o) c.directive.new.self c.directive.new.names c.directive.new.phrases) c.in-Ok-Some.field-0-is c.in-Ok-Some.ensures.answers)
