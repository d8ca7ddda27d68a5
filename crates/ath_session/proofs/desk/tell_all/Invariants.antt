use Rattle.std.proofs.Common.{◌≤◌, map, take}
use Rattle.ath_print.specs.Stands.{event_of}
use Rattle.ath_session.proofs.TellingLaws.{ToldSoFar}
use Rattle.ath_session.proofs.desk.tell_all.Given as goal

abbrev pub invariant-loop-event : goal.invariant-loop-event
invariant-loop-event g l =
    ToldSoFar l.initial.desk l.desk (map (event_of l.initial.desk.session.world.store) (take l.event-index l.events)) (g.K.Sink.told l.initial.sink) (g.K.Sink.told l.sink)
    × (g.K.Sink.faults l.initial.sink ≤ g.K.Sink.faults l.sink)
