use Rattle.std.proofs.Common.{◌≡◌, ◌≤◌, Some, length, map}
use Rattle.ath_io.specs.Shelf.{Texts}
use Rattle.ath_session.specs.Steps.{configuration_of, AreGoing, weight}
use Rattle.ath_session.proofs.TopLaws.{At}
use Rattle.ath_session.proofs.top.run_files.Given as goal

abbrev pub invariant-loop-status : goal.invariant-loop-status
invariant-loop-status g l = record {
  at : (t : Texts) → g.S.Shelf.told l.fn.shelf ≡ Some t → At t.texts (record { fuel = l.fn.fuel; files = map (λ file. file.now) l.fn.files }) (record { shelf = g.S.Shelf.told l.fn.shelf; sink = g.K.Sink.told l.fn.sink }) (configuration_of l.desk) l.desk.errors (record { shelf = g.S.Shelf.told l.shelf; sink = g.K.Sink.told l.sink });
  going : AreGoing (configuration_of l.desk);
  shallow : length l.desk.open.items ≤ 17;
  source : g.S.Shelf.faults l.fn.shelf ≤ g.S.Shelf.faults l.shelf;
  sink : g.K.Sink.faults l.fn.sink ≤ g.K.Sink.faults l.sink;
}

abbrev pub decreases-loop-status : goal.decreases-loop-status
decreases-loop-status g l = weight (configuration_of l.desk)
