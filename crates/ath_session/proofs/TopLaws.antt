-- A whole run, as steps of it that are done.
use Rattle.std.proofs.Common.{◌≡◌, ◌≢◌, ℕ, ◌<◌, arith, Bool, false, ◌||◌, List, [], ◌∷◌, ◌++◌, append_assoc, append-nil, Option, Some, None, refl, sym, ◌∙◌, ap, subst}
use Rattle.std.specs.Prelude.{take, drop, map, reverse, string_bytes, if◌then◌else◌}
use Rattle.std.proofs.lemmas.List.Folds.{list_any-append}
use Rattle.ath_words.specs.Words.{Asked}
use Rattle.ath_io.specs.Shelf.{Texts, with_asked}
use Rattle.ath_reader.proofs.OneNext.{one_next}
use Rattle.ath_session.specs.declared.desk.Flow.TheVariants.{On}
use Rattle.ath_session.specs.declared.status.Status.{Status}
use Rattle.ath_session.specs.declared.status.Status.TheVariants.{Clean, Errors, Usage, Fuel, SourceFault, SinkFault, Memory}
use Rattle.ath_session.specs.Said.{line_said}
use Rattle.ath_session.specs.Run.{Item, asks, tells, Configuration, Halt, all_run, out_of_fuel, Move, halts, items_of, IsMove, Runs, at_start, one_more}
use Rattle.ath_session.specs.Report.{Report, is_error, has_error, status_of, start, IsLogOf, IsReportOf}
use Rattle.ath_session.specs.Ends.{Outside, after_items, after_part, Performed, IsStatusOf, Reports}
use Rattle.ath_reader.specs.Reading.{Reading}
use Rattle.ath_session.specs.declared.desk.Desk.{Desk}
use Rattle.ath_session.specs.Session.{state_of}
use Rattle.ath_session.specs.State.{State}
use Rattle.ath_session.specs.Steps.{configuration_of, Ended, Did, AreGoing, IsNewDesk}
use Rattle.ath_session.proofs.DeskLaws.{no_items, items_more, part_more}
use Rattle.ath_session.proofs.Existence.{some_move, run_ends}
use Rattle.ath_session.proofs.RunLaws.{log_after, one-report-of}
use Rattle.ath_eval.proofs.Sound.{conclusions-follow, values-sorted}
use Rattle.ath_session.proofs.Sound.{believed_log, none_said}

module _ (texts : List (List ℕ × List ℕ)) (run : Asked) (o : Outside) where
  -- these steps are done
  pub record At (c : Configuration) (errors : Bool) (now : Outside) : Type 0 where
    pub done : List Item
    pub runs : Runs texts (start run) done c
    pub told : errors ≡ has_error done
    pub is : now ≡ after_items o done

  pub at-first : (c : Configuration) → c ≡ start run → At c false o
  at-first c e = record { done = []; runs = subst (λ d. Runs texts (start run) [] d) (sym e) at_start; told = refl; is = sym (no_items o) }

  pub goes-on : {c c' : Configuration} {e e' : Bool} {now now' : Outside} (m : Move) → At c e now → IsMove texts c m → Did m On e e' c' now now' → At c' e' now'
  goes-on {c} {c'} {e} {e'} {now} {now'} m a move (items, (is, told, after)) = record {
    done = a.done ++ items;
    runs = one_more items a.runs (subst (IsMove texts c) is move);
    told = told ∙ (ap (λ b. b || has_error items) a.told ∙ sym (list_any-append is_error a.done items));
    is = after ∙ (ap (λ p. after_items p items) a.is ∙ items_more o a.done items);
  }

  -- a final move makes the report
  whole-report : (h : Halt) (status : Status) {c : Configuration} {e : Bool} {now now' : Outside} (items : List Item) → (a : At c e now) → IsMove texts c (halts items h) → IsStatusOf status (status_of h (a.done ++ items)) → Performed status (a.done ++ items) o now' → Reports texts (Some run) status o now'
  whole-report h status {c} items a move answer done =
      let log : IsLogOf texts (start run) (a.done ++ items) h = record { done = a.done; last = items; final = c; runs = a.runs; over = move; all = refl } in
      record {
        report = record { log = a.done ++ items; status = status_of h (a.done ++ items) };
        written = (h, log, refl);
        believed = believed_log conclusions-follow values-sorted texts run (a.done ++ items) h log;
        answer = answer;
        done = done;
      }

  ended-status : (errors : Bool) (a : List Item) → errors ≡ has_error a → status_of all_run (a ++ []) ≡ (if errors then Errors else Clean)
  ended-status errors a e = ap (λ log. status_of all_run log) (append-nil a) ∙ ap (λ b. if b then Errors else Clean) (sym e)

  nothing-more : {c : Configuration} {e : Bool} {now now' : Outside} → (a : At c e now) → now' ≡ now → now' ≡ after_items o (a.done ++ [])
  nothing-more a e = e ∙ (a.is ∙ ap (after_items o) (sym (append-nil a.done)))

  -- a part of the next move is done, and with it a part of the report
  part-reported : (status : Status) → ((written : Status) → IsStatusOf status written) → ((m : Move) (done more log : List Item) (errors : Bool) (now now' : Outside) → now ≡ after_items o done → log ≡ done ++ (items_of m ++ more) → Ended m status errors now now' → Performed status log o now')
      → {c : Configuration} {e : Bool} {now now' : Outside} → At c e now → ((m : Move) → IsMove texts c m → Ended m status e now now') → Reports texts (Some run) status o now'
  part-reported status answer performed {c} {e} {now} {now'} a did =
      let l = run_ends texts run in
      let after = log_after one_next texts (start run) l.log l.halt a.done c l.is a.runs in
      record {
        report = record { log = l.log; status = status_of l.halt l.log };
        written = (l.halt, l.is, refl);
        believed = believed_log conclusions-follow values-sorted texts run l.log l.halt l.is;
        answer = answer (status_of l.halt l.log);
        done = performed after.move a.done after.more l.log e now now' a.is after.all (did after.move after.moves);
      }

  source-performed : (m : Move) (done more log : List Item) (errors : Bool) (now now' : Outside) → now ≡ after_items o done → log ≡ done ++ (items_of m ++ more) → Ended m SourceFault errors now now' → Performed SourceFault log o now'
  source-performed m done more log errors now now' is all (name, rest, (items, after)) =
      (done, rest ++ more, name, (all ∙ ap (λ xs. done ++ (xs ++ more)) items, after ∙ (ap (λ p. after_items p (asks name ∷ [])) is ∙ items_more o done (asks name ∷ []))))

  sink-performed : (m : Move) (done more log : List Item) (errors : Bool) (now now' : Outside) → now ≡ after_items o done → log ≡ done ++ (items_of m ++ more) → Ended m SinkFault errors now now' → Performed SinkFault log o now'
  sink-performed m done more log errors now now' is all (front, rest, s, count, (items, after)) = (
    done ++ front,
    rest ++ more,
    s,
    count,
    (
      all ∙ (ap (λ xs. done ++ (xs ++ more)) items ∙ (ap (λ xs. done ++ xs) (append_assoc front (tells s ∷ rest) more) ∙ sym (append_assoc done front (tells s ∷ (rest ++ more))))),
      after ∙ (ap (λ p. after_part p front (take count (line_said s))) is ∙ part_more o done front (take count (line_said s))),
    ),
  )

  memory-performed : (m : Move) (done more log : List Item) (errors : Bool) (now now' : Outside) → now ≡ after_items o done → log ≡ done ++ (items_of m ++ more) → Ended m Memory errors now now' → Performed Memory log o now'
  memory-performed m done more log errors now now' is all (front, rest, (items, after)) = (
    done ++ front,
    rest ++ more,
    (
      all ∙ (ap (λ xs. done ++ (xs ++ more)) items ∙ (ap (λ xs. done ++ xs) (append_assoc front rest more) ∙ sym (append_assoc done front (rest ++ more)))),
      after ∙ (ap (λ p. after_items p front) is ∙ items_more o done front),
    ),
  )

  out-of-fuel : {c : Configuration} {e : Bool} {now now' : Outside} → At c e now → (m : Move) → IsMove texts c m → Ended m Fuel e now now' → Reports texts (Some run) Fuel o now'
  out-of-fuel {c} {now' = now'} a m move (items, (is, after)) =
      let all : now' ≡ after_items o (a.done ++ items) = after ∙ (ap (λ p. after_items p items) a.is ∙ items_more o a.done items) in
      whole-report out_of_fuel Fuel items a (subst (IsMove texts c) is move) refl all

  -- what is done where the run ends
  pub ends : (status : Status) (now' : Outside) {c : Configuration} {e : Bool} {now : Outside} → At c e now → ((m : Move) → IsMove texts c m → Ended m status e now now') → Reports texts (Some run) status o now'
  ends Clean now' {c} {e} a did =
      let m = some_move texts c in
      let d = did m.0 m.1 in
      whole-report all_run Clean [] a (subst (IsMove texts c) d.0 m.1) (ended-status e a.done a.told ∙ ap (λ b. if b then Errors else Clean) d.1) (nothing-more a d.2)
  ends Errors now' {c} {e} a did =
      let m = some_move texts c in
      let d = did m.0 m.1 in
      whole-report all_run Errors [] a (subst (IsMove texts c) d.0 m.1) (ended-status e a.done a.told ∙ ap (λ b. if b then Errors else Clean) d.1) (nothing-more a d.2)
  ends Fuel now' {c} a did = let m = some_move texts c in out-of-fuel a m.0 m.1 (did m.0 m.1)
  ends SourceFault now' a did = part-reported SourceFault (λ s. tt) source-performed a did
  ends SinkFault now' a did = part-reported SinkFault (λ s. tt) sink-performed a did
  ends Memory now' a did = part-reported Memory (λ s. tt) memory-performed a did
  ends Usage now' {c} a did = let m = some_move texts c in absurd (did m.0 m.1)

-- nothing is done
pub not-begun : (texts : List (List ℕ × List ℕ)) (run : Asked) (o : Outside) → Reports texts (Some run) Memory o o
not-begun texts run o = ends texts run o Memory o (at-first texts run o (start run) refl) (λ m h. ([], items_of m, (refl, sym (no_items o))))

-- words that spell no run have the empty report
pub none-spelled : (texts : List (List ℕ × List ℕ)) (status : Status) (o : Outside) → IsStatusOf status Usage → Performed status [] o o → Reports texts None status o o
none-spelled texts status o answer done = record { report = record { log = []; status = Usage }; written = refl; believed = none_said; answer = answer; done = done }

-- the words aren't read
pub none-read : (texts : List (List ℕ × List ℕ)) (asked : Option Asked) (o : Outside) → Reports texts asked Memory o o
none-read texts None o = none-spelled texts Memory o tt ([], [], (refl, sym (no_items o)))
none-read texts (Some run) o = not-begun texts run o

configuration : List (List ℕ) → List Reading → List (List ℕ) → State → Configuration
configuration ws rs fs st = record { waiting = ws; stack = rs; files = fs; state = st }

-- a new desk is at the start
pub new-start : (d : Desk) (fuel : ℕ) (files : List (List ℕ)) → IsNewDesk d fuel files → configuration_of d ≡ start (record { fuel = fuel; files = files })
unfolding configuration
new-start d fuel files n =
    ap (λ k. configuration (drop k (map string_bytes d.named.items)) (reverse d.open.items) (map string_bytes d.files.items) (state_of d.session.world)) n.next
    ∙ (ap (λ ws. configuration ws (reverse d.open.items) (map string_bytes d.files.items) (state_of d.session.world)) n.named
    ∙ (ap (λ rs. configuration files (reverse rs) (map string_bytes d.files.items) (state_of d.session.world)) n.empty
    ∙ (ap (λ fs. configuration files [] (map string_bytes fs) (state_of d.session.world)) n.no_files
    ∙ ap (λ st. configuration files [] [] st) n.state)))

none-below : (k : ℕ) → k < 0 → ⊥
none-below k h = omega (arith, h)

pub new-going : (d : Desk) (fuel : ℕ) (files : List (List ℕ)) → IsNewDesk d fuel files → AreGoing (configuration_of d)
new-going d fuel files n = subst AreGoing (sym (new-start d fuel files n)) (λ k r h. absurd (none-below k h))

pub new-at : (texts : List (List ℕ × List ℕ)) (o : Outside) (d : Desk) (fuel : ℕ) (files : List (List ℕ)) → IsNewDesk d fuel files → At texts (record { fuel = fuel; files = files }) o (configuration_of d) d.errors o
new-at texts o d fuel files n = subst (λ e. At texts (record { fuel = fuel; files = files }) o (configuration_of d) e o) (sym n.errors) (at-first texts (record { fuel = fuel; files = files }) o (configuration_of d) (new-start d fuel files n))

-- the names that are asked for leave the texts
pub still-told : (t : Texts) (told : Option Texts) (names : List (List ℕ)) → told ≡ Some t → with_asked told names ≡ Some (record { texts = t.texts; asked = t.asked ++ names })
still-told t told names e = ap (λ x. with_asked x names) e

-- an answer is the status of each report, where it is no fault
is-answer : (status written : Status) → IsStatusOf status written → status ≢ Memory → status ≢ SourceFault → status ≢ SinkFault → written ≡ status
is-answer SourceFault written a f g h = absurd (g refl)
is-answer SinkFault written a f g h = absurd (h refl)
is-answer Memory written a f g h = absurd (f refl)
is-answer Clean written a f g h = a
is-answer Errors written a f g h = a
is-answer Fuel written a f g h = a
is-answer Usage written a f g h = a

pub completes : (texts : List (List ℕ × List ℕ)) (asked : Option Asked) (status : Status) (o o' : Outside) → status ≢ Memory → status ≢ SourceFault → status ≢ SinkFault → Reports texts asked status o o' → (r : Report) → IsReportOf texts asked r → r.status ≡ status
completes texts asked status o o' f g h w r i =
    ap (λ (s : Report). s.status) (one-report-of one_next texts asked r w.report i w.written) ∙ is-answer status w.report.status w.answer f g h
