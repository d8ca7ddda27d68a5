use Rattle.std.proofs.Common.{ℕ, Bool, subst}
use Rattle.ath_session.specs.Run.{asking}
use Rattle.ath_session.specs.Steps.{configuration_of, IsOpened}
use Rattle.ath_session.proofs.DeskLaws.{source_failed, not_opened, is_open, is_too_long, nothing_asked, asked_failed, asked_nothing, fetched_is}
use Rattle.ath_session.proofs.desk.ask.Goals as goal

pub returns-in-Err-Failed-clause-did : goal.returns-in-Err-Failed-clause-did
returns-in-Err-Failed-clause-did g c = λ t told.
    source_failed t.texts (configuration_of c.args.desk.now) c.args.at c.args.name.now c.args.desk.now.errors (g.S.Shelf.told c.args.shelf.now) (g.S.Shelf.told c.fetch.new.self) (g.K.Sink.told c.args.sink.now) (asked_failed ℕ (g.S.Shelf.told c.args.shelf.now) (g.S.Shelf.told c.fetch.new.self) c.args.name.now c.in-Err-Failed.field-0 c.in-Err-Failed.ensures.asked c.in-Err-Failed.field-0-is)

pub returns-in-Err-Memory-clause-did : goal.returns-in-Err-Memory-clause-did
returns-in-Err-Memory-clause-did g c = λ t told.
    nothing_asked (asking t.texts (configuration_of c.args.desk.now) c.args.at c.args.name.now) c.args.desk.now.errors (g.S.Shelf.told c.args.shelf.now) (g.S.Shelf.told c.fetch.new.self) (g.K.Sink.told c.args.sink.now) (asked_nothing ℕ (g.S.Shelf.told c.args.shelf.now) (g.S.Shelf.told c.fetch.new.self) c.args.name.now c.in-Err-Memory.field-0 c.in-Err-Memory.ensures.asked c.in-Err-Memory.field-0-is)

pub returns-in-Err-clause-did : goal.returns-in-Err-clause-did
returns-in-Err-clause-did g c = λ t told.
    not_opened t.texts (configuration_of c.args.desk.now) c.args.at c.args.name.now c.args.desk.now.errors (g.S.Shelf.told c.args.shelf.now) (g.S.Shelf.told c.fetch.new.self) (g.K.Sink.told c.args.sink.now) c.in-Ok.ensures.asked

pub returns-in-Ok-true-clause-did : goal.returns-in-Ok-true-clause-did
returns-in-Ok-true-clause-did g c = λ t told.
    let found = fetched_is _ t c.args.name.now 4194305 c.in-Ok.text.items told c.in-Ok.ensures.content in
    let opened = subst (λ (b : Bool). IsOpened (configuration_of c.args.desk.now) c.args.name.now c.in-Ok.text.items b (configuration_of c.open.new.desk)) c.in-Ok-true.field-0-test c.in-Ok-true.ensures.opened in
    is_open t.texts (configuration_of c.args.desk.now) c.args.at c.args.name.now c.in-Ok.text.items found (configuration_of c.open.new.desk) c.args.desk.now.errors c.open.new.desk.errors (g.S.Shelf.told c.args.shelf.now) (g.S.Shelf.told c.fetch.new.self) (g.K.Sink.told c.args.sink.now) (g.K.Sink.told c.args.sink.now) c.in-Ok.ensures.asked opened c.in-Ok-true.ensures.errors

pub returns-in-Ok-false-clause-did : goal.returns-in-Ok-false-clause-did
returns-in-Ok-false-clause-did g c = λ t told.
    let found = fetched_is _ t c.args.name.now 4194305 c.in-Ok.text.items told c.in-Ok.ensures.content in
    let opened = subst (λ (b : Bool). IsOpened (configuration_of c.args.desk.now) c.args.name.now c.in-Ok.text.items b (configuration_of c.open.new.desk)) c.in-Ok-false.field-0-test c.in-Ok-false.ensures.opened in
    is_too_long t.texts (configuration_of c.args.desk.now) c.args.at c.args.name.now c.in-Ok.text.items found (configuration_of c.open.new.desk) c.args.desk.now.errors c.tell_fault.new.desk.errors (g.S.Shelf.told c.args.shelf.now) (g.S.Shelf.told c.fetch.new.self) (g.K.Sink.told c.args.sink.now) (g.K.Sink.told c.tell_fault.new.sink) c.in-Ok.ensures.asked opened
    c.tell_fault.result c.open.new.desk.errors (configuration_of c.tell_fault.new.desk) c.in-Ok-false.ensures.errors c.tell_fault.ensures.no_source (c.tell_fault.ensures.did (g.S.Shelf.told c.fetch.new.self))
