use Rattle.std.proofs.Common.{[], ◌≤◌, ◌<◌, ◌-◌, length, map, arith, refl, sym, ◌∙◌, ap, subst, string_bytes}
use Rattle.ath_print.specs.Stands.{event_of}
use Rattle.ath_session.specs.State.{State}
use Rattle.ath_session.specs.Directives.{effect, loads}
use Rattle.ath_session.specs.Session.{state_of, next_of}
use Rattle.ath_session.specs.declared.status.Status.TheVariants.{Fuel}
use Rattle.ath_session.specs.Run.{Move, out_of_fuel, tell_all}
use Rattle.ath_session.specs.Steps.{configuration_of, Did, Ended}
use Rattle.ath_session.proofs.DeskLaws.{no_items, out_after, ends_before_halt}
use Rattle.ath_session.proofs.MoveLaws.{goes_is, ends_is, loads_is, no_load_is}
use Rattle.ath_session.proofs.WeightLaws.{opens_items}
use Rattle.ath_session.proofs.desk.run_directive.Goals as goal

pub returns-in-Go-clause-did : goal.returns-in-Go-clause-did
returns-in-Go-clause-did g c = λ t d told is.
    let now = record c.args.desk.now { session = c.directive.new.self } in
    let e = effect (state_of c.args.desk.now.session.world) d in
    let reply = c.in-Ok.ensures.reply d is in
    let state = ap (λ (s : State). record (configuration_of c.args.desk.now) { state = s }) reply.state in
    let events = ap (λ es. map (event_of c.directive.new.self.world.store) es) c.as_slice.ensures.value ∙ reply.events.1 in
    subst (λ (m : Move). Did m c.tell_all.result c.args.desk.now.errors c.tell_all.new.desk.errors (configuration_of c.tell_all.new.desk) (record { shelf = g.S.Shelf.told c.args.shelf.now; sink = g.K.Sink.told c.args.sink.now }) (record { shelf = g.S.Shelf.told c.args.shelf.now; sink = g.K.Sink.told c.tell_all.new.sink }))
    (sym (goes_is t.texts (configuration_of c.args.desk.now) (configuration_of now) (length c.args.desk.now.open.items - 1) c.args.directive.now.pos e state _ events (sym (ap next_of c.in-Go.is) ∙ reply.next)))
    (c.tell_all.ensures.did (g.S.Shelf.told c.args.shelf.now))

pub returns-in-On-clause-did : goal.returns-in-On-clause-did
returns-in-On-clause-did g c = λ t d told is.
    let now = record c.args.desk.now { session = c.directive.new.self } in
    let e = effect (state_of c.args.desk.now.session.world) d in
    let reply = c.in-Ok.ensures.reply d is in
    let state = ap (λ (s : State). record (configuration_of c.args.desk.now) { state = s }) reply.state in
    let events = ap (λ es. map (event_of c.directive.new.self.world.store) es) c.as_slice-in-Stop.ensures.value ∙ reply.events.1 in
    subst (λ (m : Move). Ended m Fuel c.args.desk.now.errors (record { shelf = g.S.Shelf.told c.args.shelf.now; sink = g.K.Sink.told c.args.sink.now }) (record { shelf = g.S.Shelf.told c.args.shelf.now; sink = g.K.Sink.told c.tell_all-in-Stop.new.sink }))
    (sym (ends_is t.texts (configuration_of c.args.desk.now) (configuration_of now) (length c.args.desk.now.open.items - 1) c.args.directive.now.pos e state _ events (sym (ap next_of c.in-Stop.is) ∙ reply.next)))
    (out_after (tell_all (configuration_of now) (map (event_of c.directive.new.self.world.store) c.as_slice-in-Stop.result.now)) (configuration_of now) out_of_fuel c.args.desk.now.errors c.tell_all-in-Stop.new.desk.errors (configuration_of c.tell_all-in-Stop.new.desk) (record { shelf = g.S.Shelf.told c.args.shelf.now; sink = g.K.Sink.told c.args.sink.now }) (record { shelf = g.S.Shelf.told c.args.shelf.now; sink = g.K.Sink.told c.tell_all-in-Stop.new.sink }) (c.in-On.ensures.did (g.S.Shelf.told c.args.shelf.now)))

pub returns-in-Stop-clause-did : goal.returns-in-Stop-clause-did
returns-in-Stop-clause-did g c = λ t d told is.
    let now = record c.args.desk.now { session = c.directive.new.self } in
    let e = effect (state_of c.args.desk.now.session.world) d in
    let reply = c.in-Ok.ensures.reply d is in
    let state = ap (λ (s : State). record (configuration_of c.args.desk.now) { state = s }) reply.state in
    let events = ap (λ es. map (event_of c.directive.new.self.world.store) es) c.as_slice-in-Stop.ensures.value ∙ reply.events.1 in
    subst (λ (m : Move). Ended m c.in-End.status c.args.desk.now.errors (record { shelf = g.S.Shelf.told c.args.shelf.now; sink = g.K.Sink.told c.args.sink.now }) (record { shelf = g.S.Shelf.told c.args.shelf.now; sink = g.K.Sink.told c.tell_all-in-Stop.new.sink }))
    (sym (ends_is t.texts (configuration_of c.args.desk.now) (configuration_of now) (length c.args.desk.now.open.items - 1) c.args.directive.now.pos e state _ events (sym (ap next_of c.in-Stop.is) ∙ reply.next)))
    (ends_before_halt (tell_all (configuration_of now) (map (event_of c.directive.new.self.world.store) c.as_slice-in-Stop.result.now)) (configuration_of now) out_of_fuel c.args.desk.now.errors c.tell_all-in-Stop.new.desk.errors (configuration_of c.tell_all-in-Stop.new.desk) (record { shelf = g.S.Shelf.told c.args.shelf.now; sink = g.K.Sink.told c.args.sink.now }) (record { shelf = g.S.Shelf.told c.args.shelf.now; sink = g.K.Sink.told c.tell_all-in-Stop.new.sink }) c.in-End.status (c.in-End.ensures.did (g.S.Shelf.told c.args.shelf.now)))

pub returns-then-len-gt-MOST_LOADS-clause-did : goal.returns-then-len-gt-MOST_LOADS-clause-did
returns-then-len-gt-MOST_LOADS-clause-did g c = λ t d told is.
    let now = record c.args.desk.now { session = c.directive.new.self } in
    let e = effect (state_of c.args.desk.now.session.world) d in
    let reply = c.in-Ok.ensures.reply d is in
    let state = ap (λ (s : State). record (configuration_of c.args.desk.now) { state = s }) reply.state in
    let many : 16 ≤ length c.args.desk.now.open.items - 1 = omega arith in
    subst (λ (m : Move). Did m c.tell_fault.result c.args.desk.now.errors c.tell_fault.new.desk.errors (configuration_of c.tell_fault.new.desk) (record { shelf = g.S.Shelf.told c.args.shelf.now; sink = g.K.Sink.told c.args.sink.now }) (record { shelf = g.S.Shelf.told c.args.shelf.now; sink = g.K.Sink.told c.tell_fault.new.sink }))
    (sym (no_load_is t.texts (configuration_of c.args.desk.now) (configuration_of now) (length c.args.desk.now.open.items - 1) c.args.directive.now.pos e state (string_bytes c.in-Load.name) (sym (ap next_of c.in-Load.is) ∙ reply.next) many))
    (c.tell_fault.ensures.did (g.S.Shelf.told c.args.shelf.now))

pub returns-clause-did : goal.returns-clause-did
returns-clause-did g c = λ t d told is.
    let now = record c.args.desk.now { session = c.directive.new.self } in
    let e = effect (state_of c.args.desk.now.session.world) d in
    let reply = c.in-Ok.ensures.reply d is in
    let state = ap (λ (s : State). record (configuration_of c.args.desk.now) { state = s }) reply.state in
    let few : length c.args.desk.now.open.items - 1 < 16 = omega arith in
    subst (λ (m : Move). Did m c.ask.result c.args.desk.now.errors c.ask.new.desk.errors (configuration_of c.ask.new.desk) (record { shelf = g.S.Shelf.told c.args.shelf.now; sink = g.K.Sink.told c.args.sink.now }) (record { shelf = g.S.Shelf.told c.ask.new.shelf; sink = g.K.Sink.told c.ask.new.sink }))
    (sym (loads_is t.texts (configuration_of c.args.desk.now) (configuration_of now) (length c.args.desk.now.open.items - 1) c.args.directive.now.pos e state c.as_str.result.now (ap loads c.as_str.ensures.value ∙ sym (ap next_of c.in-Load.is) ∙ reply.next) few))
    (c.ask.ensures.did t told)

pub returns-clause-shallow : goal.returns-clause-shallow
returns-clause-shallow g c = λ on shallow.
    let h = opens_items (configuration_of (record c.args.desk.now { session = c.directive.new.self })) (configuration_of c.ask.new.desk) c.args.desk.now.open.items c.ask.new.desk.open.items refl refl (c.ask.ensures.opens on) in
    omega arith

pub returns-in_default-clause-did : goal.returns-in_default-clause-did
returns-in_default-clause-did g c = λ t d told is. ([], _, (refl, sym (no_items (record { shelf = g.S.Shelf.told c.args.shelf.now; sink = g.K.Sink.told c.args.sink.now }))))
