use Rattle.std.proofs.Common.{◌∷◌, ◌-◌, ◌≤◌, List, Option, Result, Ok, length, reverse, refl, sym, ◌∙◌, ap, subst}
use Rattle.std.proofs.lemmas.List.{length-reverse}
use Rattle.std.proofs.lemmas.List.Elements.{All-head, All-tail, All-cons, All-same}
use Rattle.ath_reader.specs.Reading.{Reading, reached}
use Rattle.ath_reader.proofs.NextAnswers.{none_of_answer, whole_of_answer, stopped_of_answer}
use Rattle.ath_session.specs.declared.desk.Desk.{Desk}
use Rattle.ath_session.specs.State.{State, with_names}
use Rattle.ath_session.specs.Session.{state_of}
use Rattle.ath_session.specs.Steps.{configuration_of, IsGoing}
use Rattle.ath_session.proofs.ReadLaws.{reads, same_state, pushed, read_to, refused_did, ended_did, stopped_did, whole_did, not_memory, innermost, around}
use Rattle.ath_session.proofs.WeightLaws.{popped_falls, text_falls, opens_going}
use Rattle.ath_reader.proofs.OneNext.{one_next}
use Rattle.ath_reader.proofs.Advance.{advances}
use Rattle.std.specs.Prelude.{IfOk, IfSome}
use Rattle.ath_syntax.specs.declared.directive.Directive.{Directive}
use Rattle.ath_reader.specs.declared.reader.SyntaxError.{SyntaxError}
use Rattle.ath_session.specs.Session.{ParamsDiffer}
use Rattle.ath_session.proofs.desk.read_on.Goals as goal

pub returns-in-Ok-None-clause-did : goal.returns-in-Ok-None-clause-did
returns-in-Ok-None-clause-did g c = λ t m told moves.
    let is = All-head IsGoing c.args.reader (reverse c.args.desk.now.open.items) c.requires.going in
    let answers = reads c.args.reader is.0 c.args.desk.now.session.world.names c.args.desk.now.session.world.phrases c.read.result c.read.new.reader c.read.new.self.world.names c.read.new.self.world.phrases is.1.0 c.read.ensures.answers in
    let none = none_of_answer c.args.reader is.0 c.args.desk.now.session.world.names c.args.desk.now.session.world.phrases c.read.new.reader c.read.new.self.world.names c.read.new.self.world.phrases c.read.result answers (c.in-Ok-None.is ∙ ap Ok c.in-Ok-None.field-0-is) in
    let same = ap (λ (st : State). record (configuration_of c.args.desk.now) { state = st }) (same_state (state_of c.args.desk.now.session.world) (state_of c.read.new.self.world) c.read.new.self.world.names c.read.ensures.kept none.2) in
    ended_did t.texts (configuration_of c.args.desk.now) c.args.reader is.0 is.1.0 one_next m moves none.0 (configuration_of (record c.args.desk.now { session = c.read.new.self })) same c.args.desk.now.errors (record { shelf = g.S.Shelf.told c.args.shelf.now; sink = g.K.Sink.told c.args.sink.now })

pub returns-in-Ok-None-clause-going : goal.returns-in-Ok-None-clause-going
returns-in-Ok-None-clause-going g c = λ on. All-tail IsGoing c.args.reader (reverse c.args.desk.now.open.items) c.requires.going

pub returns-in-Ok-None-clause-falls : goal.returns-in-Ok-None-clause-falls
returns-in-Ok-None-clause-falls g c = λ on.
    let is = All-head IsGoing c.args.reader (reverse c.args.desk.now.open.items) c.requires.going in
    popped_falls (configuration_of c.args.desk.now) (configuration_of (record c.args.desk.now { session = c.read.new.self })) c.args.reader is.0 is.1.0 refl refl

pub run_directive-requires-clause-directive : goal.run_directive-requires-clause-directive
run_directive-requires-clause-directive g c =
    let is = All-head IsGoing c.args.reader (reverse c.args.desk.now.open.items) c.requires.going in
    let answers = reads c.args.reader is.0 c.args.desk.now.session.world.names c.args.desk.now.session.world.phrases c.read.result c.read.new.reader c.read.new.self.world.names c.read.new.self.world.phrases is.1.0 c.read.ensures.answers in
    let found = whole_of_answer c.args.reader is.0 c.args.desk.now.session.world.names c.args.desk.now.session.world.phrases c.read.new.reader c.read.new.self.world.names c.read.new.self.world.phrases c.read.result answers c.in-Ok-Some.directive (c.in-Ok-Some.is ∙ ap Ok c.in-Ok-Some.field-0-is) in
    (found.0, found.2)

pub returns-else-is_err-clause-did : goal.returns-else-is_err-clause-did
returns-else-is_err-clause-did g c = λ t m told moves.
    let is = All-head IsGoing c.args.reader (reverse c.args.desk.now.open.items) c.requires.going in
    let answers = reads c.args.reader is.0 c.args.desk.now.session.world.names c.args.desk.now.session.world.phrases c.read.result c.read.new.reader c.read.new.self.world.names c.read.new.self.world.phrases is.1.0 c.read.ensures.answers in
    let found = whole_of_answer c.args.reader is.0 c.args.desk.now.session.world.names c.args.desk.now.session.world.phrases c.read.new.reader c.read.new.self.world.names c.read.new.self.world.phrases c.read.result answers c.in-Ok-Some.directive (c.in-Ok-Some.is ∙ ap Ok c.in-Ok-Some.field-0-is) in
    let items = pushed c.push.result c.args.desk.now.open.items c.push.new.self.items c.read.new.reader c.push.ensures.items (sym c.is_err.ensures.value ∙ c.if-is_err.false) in
    let stack = ap (λ (rs : List Reading). reverse rs) items ∙ innermost c.args.desk.now.open.items c.read.new.reader ∙ ap (λ (r : Reading). r ∷ reverse c.args.desk.now.open.items) found.5 in
    let mid = read_to (configuration_of c.args.desk.now) (reverse c.push.new.self.items) ((record c.args.reader { progress = reached found.1 }) ∷ reverse c.args.desk.now.open.items) (state_of c.read.new.self.world) (with_names c.read.new.self.world.names (state_of c.args.desk.now.session.world)) stack c.read.ensures.kept in
    let depth = ap (λ (rs : List Reading). length rs - 1) items ∙ around c.args.desk.now.open.items c.read.new.reader in
    whole_did t.texts (configuration_of c.args.desk.now) c.args.reader is.0 is.1.0 one_next m moves c.read.new.self.world.phrases c.in-Ok-Some.directive found.0 found.1 c.read.new.self.world.names found.2 found.3 (configuration_of (record c.args.desk.now { session = c.read.new.self; «open» = c.push.new.self })) mid (length c.push.new.self.items - 1) depth
    c.run_directive.result c.args.desk.now.errors c.run_directive.new.desk.errors (configuration_of c.run_directive.new.desk) (record { shelf = g.S.Shelf.told c.args.shelf.now; sink = g.K.Sink.told c.args.sink.now }) (record { shelf = g.S.Shelf.told c.run_directive.new.shelf; sink = g.K.Sink.told c.run_directive.new.sink })
    (c.run_directive.ensures.did t found.0 told found.2)

pub returns-else-is_err-clause-going : goal.returns-else-is_err-clause-going
returns-else-is_err-clause-going g c = λ on.
    let is = All-head IsGoing c.args.reader (reverse c.args.desk.now.open.items) c.requires.going in
    let answers = reads c.args.reader is.0 c.args.desk.now.session.world.names c.args.desk.now.session.world.phrases c.read.result c.read.new.reader c.read.new.self.world.names c.read.new.self.world.phrases is.1.0 c.read.ensures.answers in
    let found = whole_of_answer c.args.reader is.0 c.args.desk.now.session.world.names c.args.desk.now.session.world.phrases c.read.new.reader c.read.new.self.world.names c.read.new.self.world.phrases c.read.result answers c.in-Ok-Some.directive (c.in-Ok-Some.is ∙ ap Ok c.in-Ok-Some.field-0-is) in
    let items = pushed c.push.result c.args.desk.now.open.items c.push.new.self.items c.read.new.reader c.push.ensures.items (sym c.is_err.ensures.value ∙ c.if-is_err.false) in
    let stack = ap (λ (rs : List Reading). reverse rs) items ∙ innermost c.args.desk.now.open.items c.read.new.reader ∙ ap (λ (r : Reading). r ∷ reverse c.args.desk.now.open.items) found.5 in
    let further = advances c.args.reader c.args.desk.now.session.world.names is.0 found.0 found.1 c.read.new.self.world.names found.3 in
    opens_going (configuration_of (record c.args.desk.now { session = c.read.new.self; «open» = c.push.new.self })) (configuration_of c.run_directive.new.desk) (c.run_directive.ensures.opens on)
    (All-same IsGoing (reverse c.push.new.self.items) ((record c.args.reader { progress = reached found.1 }) ∷ reverse c.args.desk.now.open.items) stack (All-cons IsGoing (record c.args.reader { progress = reached found.1 }) (reverse c.args.desk.now.open.items) (found.1, (refl, further.1)) (All-tail IsGoing c.args.reader (reverse c.args.desk.now.open.items) c.requires.going)))

pub returns-else-is_err-clause-falls : goal.returns-else-is_err-clause-falls
returns-else-is_err-clause-falls g c = λ on.
    let is = All-head IsGoing c.args.reader (reverse c.args.desk.now.open.items) c.requires.going in
    let answers = reads c.args.reader is.0 c.args.desk.now.session.world.names c.args.desk.now.session.world.phrases c.read.result c.read.new.reader c.read.new.self.world.names c.read.new.self.world.phrases is.1.0 c.read.ensures.answers in
    let found = whole_of_answer c.args.reader is.0 c.args.desk.now.session.world.names c.args.desk.now.session.world.phrases c.read.new.reader c.read.new.self.world.names c.read.new.self.world.phrases c.read.result answers c.in-Ok-Some.directive (c.in-Ok-Some.is ∙ ap Ok c.in-Ok-Some.field-0-is) in
    let items = pushed c.push.result c.args.desk.now.open.items c.push.new.self.items c.read.new.reader c.push.ensures.items (sym c.is_err.ensures.value ∙ c.if-is_err.false) in
    let stack = ap (λ (rs : List Reading). reverse rs) items ∙ innermost c.args.desk.now.open.items c.read.new.reader ∙ ap (λ (r : Reading). r ∷ reverse c.args.desk.now.open.items) found.5 in
    let further = advances c.args.reader c.args.desk.now.session.world.names is.0 found.0 found.1 c.read.new.self.world.names found.3 in
    let deep : length (reverse c.args.desk.now.open.items) ≤ 16 = subst (λ n. n ≤ 16) (sym (length-reverse c.args.desk.now.open.items)) c.requires.shallow in
    text_falls (configuration_of c.args.desk.now) (configuration_of c.run_directive.new.desk) c.args.reader is.0 is.1.0 found.1 further.0 further.1 deep (configuration_of (record c.args.desk.now { session = c.read.new.self; «open» = c.push.new.self })) refl stack (c.run_directive.ensures.opens on)

pub returns-in-Err-clause-did : goal.returns-in-Err-clause-did
returns-in-Err-clause-did g c = λ t m told moves.
    let is = All-head IsGoing c.args.reader (reverse c.args.desk.now.open.items) c.requires.going in
    let answers = reads c.args.reader is.0 c.args.desk.now.session.world.names c.args.desk.now.session.world.phrases c.read.result c.read.new.reader c.read.new.self.world.names c.read.new.self.world.phrases is.1.0 c.read.ensures.answers in
    let refused = stopped_of_answer c.args.reader is.0 c.args.desk.now.session.world.names c.args.desk.now.session.world.phrases c.read.new.reader c.read.new.self.world.names c.read.new.self.world.phrases c.read.result answers c.in-Err.error c.in-Err.is in
    let state = ap (λ (st : State). record (configuration_of c.args.desk.now) { state = st }) c.read.ensures.kept in
    refused_did c.args.reader c.args.desk.now.session.world.names is.0 c.in-Err.error c.read.new.self.world.names c.args.desk.now.session.world.phrases c.read.new.self.world.phrases m c.refuse_text.result c.args.desk.now.errors c.refuse_text.new.desk.errors (configuration_of c.refuse_text.new.desk) (g.S.Shelf.told c.args.shelf.now) (g.K.Sink.told c.args.sink.now) (g.K.Sink.told c.refuse_text.new.sink) refused.0 c.refuse_text.ensures.memory
    (λ next. stopped_did t.texts (configuration_of c.args.desk.now) c.args.reader is.0 is.1.0 one_next m moves c.in-Err.error c.read.new.self.world.names next (configuration_of (record c.args.desk.now { session = c.read.new.self })) state
    c.refuse_text.result c.args.desk.now.errors c.refuse_text.new.desk.errors (configuration_of c.refuse_text.new.desk) (record { shelf = g.S.Shelf.told c.args.shelf.now; sink = g.K.Sink.told c.args.sink.now }) (record { shelf = g.S.Shelf.told c.args.shelf.now; sink = g.K.Sink.told c.refuse_text.new.sink })
    (c.refuse_text.ensures.did (not_memory c.args.reader c.args.desk.now.session.world.names is.0 c.in-Err.error c.read.new.self.world.names next) (g.S.Shelf.told c.args.shelf.now)))

pub returns-in-Err-clause-going : goal.returns-in-Err-clause-going
returns-in-Err-clause-going g c = λ on.
    All-same IsGoing (reverse c.refuse_text.new.desk.open.items) (reverse c.args.desk.now.open.items) (ap (λ (d : Desk). reverse d.open.items) c.refuse_text.ensures.kept) (All-tail IsGoing c.args.reader (reverse c.args.desk.now.open.items) c.requires.going)

pub returns-in-Err-clause-falls : goal.returns-in-Err-clause-falls
returns-in-Err-clause-falls g c = λ on.
    let is = All-head IsGoing c.args.reader (reverse c.args.desk.now.open.items) c.requires.going in
    popped_falls (configuration_of c.args.desk.now) (configuration_of c.refuse_text.new.desk) c.args.reader is.0 is.1.0 (ap (λ (d : Desk). (configuration_of d).waiting) c.refuse_text.ensures.kept) (ap (λ (d : Desk). reverse d.open.items) c.refuse_text.ensures.kept)

pub run_directive-requires-clause-differ : goal.run_directive-requires-clause-differ
run_directive-requires-clause-differ g c =
    subst (λ (o : Result (Option Directive) SyntaxError). IfOk o (λ found. IfSome found (λ d. ParamsDiffer d.what))) (c.in-Ok-Some.is ∙ ap Ok c.in-Ok-Some.field-0-is) c.read.ensures.differ
