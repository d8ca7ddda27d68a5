use Rattle.std.proofs.Common.{length, map, arith, subst, ap, ◌∙◌}
use Rattle.ath_session.specs.declared.desk.Flow.TheVariants.{End}
use Rattle.ath_session.specs.Ends.{Outside}
use Rattle.ath_session.specs.Steps.{configuration_of, Did}
use Rattle.ath_session.proofs.Existence.{some_move}
use Rattle.ath_session.proofs.TopLaws.{goes-on, ends, not-begun, new-at, new-going, still-told}
use Rattle.ath_session.specs.Report.{names_in}
use Rattle.ath_session.proofs.top.run_files.Goals as goal

pub returns-in_default-clause-report : goal.returns-in_default-clause-report
returns-in_default-clause-report g c = λ t h. not-begun t.texts (record { fuel = c.args.fuel; files = map (λ file. file.now) c.args.files.now }) (record { shelf = g.S.Shelf.told c.args.shelf.now; sink = g.K.Sink.told c.args.sink.now })

pub loop-status-init : goal.loop-status-init
loop-status-init g c =
    let fs = map (λ file. file.now) c.args.files.now in
    record {
      at = λ t h. new-at t.texts (record { shelf = g.S.Shelf.told c.args.shelf.now; sink = g.K.Sink.told c.args.sink.now }) c.in-Ok.desk c.args.fuel fs c.in-Ok.ensures.new;
      going = new-going c.in-Ok.desk c.args.fuel fs c.in-Ok.ensures.new;
      shallow = omega (arith, ap length c.in-Ok.ensures.new.empty);
      source = omega arith;
      sink = omega arith;
    }

pub returns-in-End-clause-no_usage : goal.returns-in-End-clause-no_usage
returns-in-End-clause-no_usage g c = λ e. c.in-End.ensures.no_usage (ap (λ s. End s) e)

pub returns-in-End-clause-report : goal.returns-in-End-clause-report
returns-in-End-clause-report g c = λ t h.
    let a = c.loop-status.invariant.at t h in
    let told = ap (λ o. o.shelf) a.is ∙ still-told t (g.S.Shelf.told c.args.shelf.now) (names_in a.done) h in
    ends t.texts (record { fuel = c.args.fuel; files = map (λ file. file.now) c.args.files.now }) (record { shelf = g.S.Shelf.told c.args.shelf.now; sink = g.K.Sink.told c.args.sink.now }) c.in-End.status _ a
    (λ m move. c.in-End.ensures.did _ m told move)

pub loop-status-preserved : goal.loop-status-preserved
loop-status-preserved g c =
    let i = c.loop-status.invariant in
    let r = c.advance.ensures in
    let on = c.in_default-advance.is in
    let now : Outside = record { shelf = g.S.Shelf.told c.loop-status.shelf; sink = g.K.Sink.told c.loop-status.sink } in
    let then : Outside = record { shelf = g.S.Shelf.told c.advance.new.shelf; sink = g.K.Sink.told c.advance.new.sink } in
    record {
      at = λ t h.
          let a = i.at t h in
          let told = ap (λ o. o.shelf) a.is ∙ still-told t (g.S.Shelf.told c.args.shelf.now) (names_in a.done) h in
          let m = some_move t.texts (configuration_of c.loop-status.desk) in
          goes-on t.texts (record { fuel = c.args.fuel; files = map (λ file. file.now) c.args.files.now }) (record { shelf = g.S.Shelf.told c.args.shelf.now; sink = g.K.Sink.told c.args.sink.now }) m.0 a m.1
          (subst (λ f. Did m.0 f c.loop-status.desk.errors c.advance.new.desk.errors (configuration_of c.advance.new.desk) now then) on (r.did _ m.0 told m.1));
      going = r.going on;
      shallow = r.shallow on;
      source = omega (arith, i.source, r.source_later);
      sink = omega (arith, i.sink, r.sink_later);
    }
