use Rattle.std.proofs.Common.{List, [], ◌∷◌, subst}
use Rattle.ath_print.specs.Events.{Event, refused}
use Rattle.ath_eval.specs.Outcomes.{refusal}
use Rattle.ath_session.specs.declared.session.Session.{Session}
use Rattle.ath_session.specs.Run.{goes, said, tell_all}
use Rattle.ath_session.specs.Steps.{configuration_of, Did}
use Rattle.ath_session.proofs.DeskLaws.{refusal_is}
use Rattle.ath_session.proofs.desk.tell_fault.Goals as goal

pub returns-clause-did : goal.returns-clause-did
returns-clause-did g c = λ told.
    let now = record c.args.desk.now { session = c.refuse.new.self } in
    let events = refusal_is c.args.desk.now.session.world.store c.refuse.new.self.world.store c.args.at c.plain.result c.args.kind c.as_slice.result.now c.in-Ok.reply.events.items c.as_slice.ensures.value c.in-Ok.ensures.reply.events.1 c.plain.ensures.kind c.plain.ensures.args in
    subst (λ (s : Session). Did (goes (said (configuration_of (record c.args.desk.now { session = s })) (refused c.args.at (refusal c.args.kind [])) ∷ []) (configuration_of (record c.args.desk.now { session = s }))) c.tell_all.result c.args.desk.now.errors c.tell_all.new.desk.errors (configuration_of c.tell_all.new.desk) (record { shelf = told; sink = g.K.Sink.told c.args.sink.now }) (record { shelf = told; sink = g.K.Sink.told c.tell_all.new.sink }))
    c.refuse.ensures.kept
    (subst (λ (es : List Event). Did (goes (tell_all (configuration_of now) es) (configuration_of now)) c.tell_all.result c.args.desk.now.errors c.tell_all.new.desk.errors (configuration_of c.tell_all.new.desk) (record { shelf = told; sink = g.K.Sink.told c.args.sink.now }) (record { shelf = told; sink = g.K.Sink.told c.tell_all.new.sink }))
    events
    (c.tell_all.ensures.did told))
