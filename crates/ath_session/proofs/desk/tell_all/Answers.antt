use Rattle.std.proofs.Common.{List, suc, map, take, drop, arith, sym, subst}
use Rattle.ath_print.specs.Events.{Event}
use Rattle.ath_print.specs.Stands.{event_of}
use Rattle.ath_print.specs.declared.event.Event.{Event as Told}
use Rattle.ath_session.proofs.TellingLaws.{ToldSoFar, told_next, told_part, told_all, told_events, events_split, all_begun}
use Rattle.ath_session.proofs.desk.tell_all.Goals as goal

pub returns-in-End-clause-did : goal.returns-in-End-clause-did
returns-in-End-clause-did g c = λ told.
    let store = c.args.desk.now.session.world.store in
    let i = c.loop-event.event-index in
    told_part c.args.desk.now c.loop-event.desk c.tell.new.desk (map (event_of store) (take i c.args.events.now)) c.event-item.result (g.K.Sink.told c.args.sink.now) (g.K.Sink.told c.loop-event.sink) (g.K.Sink.told c.tell.new.sink) c.loop-event.invariant.0
    (map (event_of store) (drop (suc i) c.args.events.now)) (map (event_of store) c.args.events.now) (events_split store c.args.events.now i c.event-item.result c.loop-event-test.true (sym c.event-item.is))
    told c.in-End.status c.in-End.ensures.no_source (c.in-End.ensures.did told)

pub loop-event-preserved : goal.loop-event-preserved
loop-event-preserved g c =
    let store = c.args.desk.now.session.world.store in
    let i = c.loop-event.event-index in
    let next = told_next c.args.desk.now c.loop-event.desk c.tell.new.desk (map (event_of store) (take i c.args.events.now)) c.event-item.result (g.K.Sink.told c.args.sink.now) (g.K.Sink.told c.loop-event.sink) (g.K.Sink.told c.tell.new.sink) c.loop-event.invariant.0 c.in_default.ensures.kept c.in_default.ensures.did in (
      subst (λ (es : List Event). ToldSoFar c.args.desk.now c.tell.new.desk es (g.K.Sink.told c.args.sink.now) (g.K.Sink.told c.tell.new.sink)) (sym (told_events store c.args.events.now i c.event-item.result c.loop-event-test.true (sym c.event-item.is))) next,
      omega (arith, c.loop-event.invariant.1, c.tell.ensures.sink_later),
    )

pub returns-clause-did : goal.returns-clause-did
returns-clause-did g c = λ told.
    let store = c.args.desk.now.session.world.store in
    let so = subst (λ (es : List Told). ToldSoFar c.args.desk.now c.loop-event.desk (map (event_of store) es) (g.K.Sink.told c.args.sink.now) (g.K.Sink.told c.loop-event.sink)) (all_begun c.args.events.now c.loop-event.event-index c.loop-event.auto.event-index-end c.loop-event-test.false) c.loop-event.invariant.0 in
    told_all c.args.desk.now c.loop-event.desk (map (event_of store) c.args.events.now) (g.K.Sink.told c.args.sink.now) (g.K.Sink.told c.loop-event.sink) so told
