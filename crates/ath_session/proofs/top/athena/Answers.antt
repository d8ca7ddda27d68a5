use Rattle.std.proofs.Common.{◌≡◌, Some, None, map, string_bytes, refl, subst, rules}
use Rattle.ath_words.specs.Words.{run_of, asked_of}
use Rattle.ath_session.specs.declared.status.Status.TheVariants.{Usage, Memory}
use Rattle.ath_session.specs.Ends.{Outside, Reports}
use Rattle.ath_session.proofs.TopLaws.{none-read, none-spelled, completes}
use Rattle.ath_session.proofs.BelievedLaws.{believed_told}
use Rattle.ath_session.proofs.FuelLaws.{run_bounded}
use Rattle.ath_session.proofs.top.athena.Goals as goal

pub returns-in-Err-clause-report : goal.returns-in-Err-clause-report
returns-in-Err-clause-report g c = λ t h. none-read t.texts (run_of (map string_bytes c.args.words.now.items)) (record { shelf = g.S.Shelf.told c.args.shelf.now; sink = g.K.Sink.told c.args.sink.now })

pub returns-in-Ok-None-clause-report : goal.returns-in-Ok-None-clause-report
returns-in-Ok-None-clause-report g c = λ t h.
    let none : None ≡ run_of (map string_bytes c.args.words.now.items) = search rules in
    let o : Outside = record { shelf = g.S.Shelf.told c.args.shelf.now; sink = g.K.Sink.told c.args.sink.now } in
    subst (λ a. Reports t.texts a Usage o o) none (none-spelled t.texts Usage o refl refl)

pub returns-in-Ok-Some-clause-complete : goal.returns-in-Ok-Some-clause-complete
returns-in-Ok-Some-clause-complete g c = λ source sink t h wanted r i.
    let run : Some (asked_of c.in-Ok-Some.run') ≡ run_of (map string_bytes c.args.words.now.items) = search rules in
    let before : Outside = record { shelf = g.S.Shelf.told c.args.shelf.now; sink = g.K.Sink.told c.args.sink.now } in
    let after : Outside = record { shelf = g.S.Shelf.told c.run_files.new.shelf; sink = g.K.Sink.told c.run_files.new.sink } in
    completes t.texts (run_of (map string_bytes c.args.words.now.items)) c.run_files.result before after
    wanted (λ e. source (c.run_files.ensures.source_cause e)) (λ e. sink (c.run_files.ensures.sink_cause e))
    (subst (λ a. Reports t.texts a c.run_files.result before after) run (search rules)) r i

pub run_files-requires : goal.run_files-requires
run_files-requires g c =
    let run : Some (asked_of c.in-Ok-Some.run') ≡ run_of (map string_bytes c.args.words.now.items) = search rules in
    run_bounded (map string_bytes c.args.words.now.items) (asked_of c.in-Ok-Some.run') run

pub returns-in-Err-clause-theorems : goal.returns-in-Err-clause-theorems
returns-in-Err-clause-theorems g c =
    let o : Outside = record { shelf = g.S.Shelf.told c.args.shelf.now; sink = g.K.Sink.told c.args.sink.now } in
    believed_told (map string_bytes c.args.words.now.items) Memory o o (returns-in-Err-clause-report g c)

pub returns-in-Ok-None-clause-theorems : goal.returns-in-Ok-None-clause-theorems
returns-in-Ok-None-clause-theorems g c =
    let o : Outside = record { shelf = g.S.Shelf.told c.args.shelf.now; sink = g.K.Sink.told c.args.sink.now } in
    believed_told (map string_bytes c.args.words.now.items) Usage o o (returns-in-Ok-None-clause-report g c)

pub returns-in-Ok-Some-clause-theorems : goal.returns-in-Ok-Some-clause-theorems
returns-in-Ok-Some-clause-theorems g c =
    let run : Some (asked_of c.in-Ok-Some.run') ≡ run_of (map string_bytes c.args.words.now.items) = search rules in
    let before : Outside = record { shelf = g.S.Shelf.told c.args.shelf.now; sink = g.K.Sink.told c.args.sink.now } in
    let after : Outside = record { shelf = g.S.Shelf.told c.run_files.new.shelf; sink = g.K.Sink.told c.run_files.new.sink } in
    believed_told (map string_bytes c.args.words.now.items) c.run_files.result before after
    (λ t told. subst (λ a. Reports t.texts a c.run_files.result before after) run (search rules))
