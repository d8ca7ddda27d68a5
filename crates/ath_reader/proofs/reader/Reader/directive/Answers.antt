use Rattle.std.proofs.Common.{Ok, Err, subst}
use Rattle.ath_reader.specs.Reading.{Reading}
use Rattle.ath_reader.specs.Answering.{Answers}
use Rattle.ath_reader.proofs.Viewed.{read_view, none_of, reader_ok}
use Rattle.ath_reader.proofs.Growth.{numbers_names, numbers_phrases}
use Rattle.ath_reader.proofs.reader.Reader.directive.Goals as goal

pub returns-in-Ok-clause-answers : goal.returns-in-Ok-clause-answers
returns-in-Ok-clause-answers c =
    subst (λ (r : Reading). Answers r r.progress c.args.names.now c.args.phrases.now (Ok c.in-Ok.found) (read_view c.read_directive.new.tokens c.self.inside.refused) c.read_directive.new.names c.read_directive.new.phrases) c.self.view_is
    (reader_ok c.self.inside.tokens c.self.inside.refused c.args.names.now c.args.phrases.now c.in-Ok.found c.read_directive.new.tokens c.read_directive.new.names c.read_directive.new.phrases (none_of c.self.inside.refused c.in_default.not-Some) c.in-Ok.ensures)

pub returns-in-Ok-clause-names : goal.returns-in-Ok-clause-names
returns-in-Ok-clause-names c = numbers_names c.self.inside.tokens c.args.names.now c.args.phrases.now c.read_directive.new.tokens c.read_directive.new.names c.read_directive.new.phrases (Ok c.in-Ok.found) c.in-Ok.ensures

pub returns-in-Ok-clause-phrases : goal.returns-in-Ok-clause-phrases
returns-in-Ok-clause-phrases c = numbers_phrases c.self.inside.tokens c.args.names.now c.args.phrases.now c.read_directive.new.tokens c.read_directive.new.names c.read_directive.new.phrases (Ok c.in-Ok.found) c.in-Ok.ensures

pub returns-in-Err-clause-names : goal.returns-in-Err-clause-names
returns-in-Err-clause-names c = numbers_names c.self.inside.tokens c.args.names.now c.args.phrases.now c.read_directive.new.tokens c.read_directive.new.names c.read_directive.new.phrases (Err c.in-Err.error) c.in-Err.ensures

pub returns-in-Err-clause-phrases : goal.returns-in-Err-clause-phrases
returns-in-Err-clause-phrases c = numbers_phrases c.self.inside.tokens c.args.names.now c.args.phrases.now c.read_directive.new.tokens c.read_directive.new.names c.read_directive.new.phrases (Err c.in-Err.error) c.in-Err.ensures
