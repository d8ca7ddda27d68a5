-- What a run has asked for and written where it ends, by its status.
use Rattle.std.specs.Prelude.{◌≡◌, ◌≢◌, ℕ, List, [], ◌∷◌, ◌++◌, take, Option, Some}
use Rattle.ath_io.specs.Shelf.{Texts, with_asked}
use Rattle.ath_io.specs.Sink.{Held, with_put, with_puts}
use Rattle.ath_session.specs.declared.status.Status.{Status}
use Rattle.ath_session.specs.declared.status.Status.TheVariants.{Clean, Errors, Usage, Fuel, SourceFault, SinkFault, Memory}
use Rattle.ath_words.specs.Words.{Asked, run_of}
use Rattle.ath_session.specs.Said.{Said, line_said}
use Rattle.ath_session.specs.Run.{Item, asks, tells}
use Rattle.ath_session.specs.Report.{Report, names_in, said_in, lines_in, IsReportOf, IsReport}
use Rattle.ath_session.specs.Believed.{AreBelieved}

-- the shelf and the sink, as far as they tell
pub record Outside : Type 0 where
  pub shelf : Option Texts
  pub sink : Option Held

-- all of these items are done: their names are asked for, and each of their lines is put
abbrev pub after_items : Outside → List Item → Outside
after_items o items = record { shelf = with_asked o.shelf (names_in items); sink = with_puts o.sink (lines_in items) }

-- the items before this one are done, and a front of its line is put
abbrev pub after_part : Outside → List Item → List ℕ → Outside
after_part o items front = record { shelf = with_asked o.shelf (names_in items); sink = with_put (with_puts o.sink (lines_in items)) front }

-- what is done of the log of a report: all of it, or all up to a name that is asked for, all before a line and a front of
-- that, or some of it
abbrev pub Performed : Status → List Item → Outside → Outside → Type 0
Performed Clean log before after = after ≡ after_items before log
Performed Errors log before after = after ≡ after_items before log
Performed Fuel log before after = after ≡ after_items before log
Performed SourceFault log before after =
    (front : List Item) × (more : List Item) × (name : List ℕ) × ((log ≡ front ++ asks name ∷ more) × (after ≡ after_items before (front ++ asks name ∷ [])))
Performed SinkFault log before after =
    (front : List Item) × (more : List Item) × (s : Said) × (count : ℕ) × ((log ≡ front ++ tells s ∷ more) × (after ≡ after_part before front (take count (line_said s))))
Performed Memory log before after =
    (front : List Item) × (more : List Item) × ((log ≡ front ++ more) × (after ≡ after_items before front))
Performed Usage log before after = after ≡ before

-- an answer that is no fault and no want of memory is the status of the report
abbrev pub IsStatusOf : Status → Status → Type 0
IsStatusOf SourceFault written = Unit {0}
IsStatusOf SinkFault written = Unit {0}
IsStatusOf Memory written = Unit {0}
IsStatusOf status written = written ≡ status

-- the report of a run, which may be believed, is done so far as the answer says
pub record Reports (texts : List (List ℕ × List ℕ)) (run : Option Asked) (status : Status) (before after : Outside) : Type 0 where
  pub report : Report
  pub written : IsReportOf texts run report
  pub believed : AreBelieved (said_in report.log)
  pub answer : IsStatusOf status report.status
  pub done : Performed status report.log before after

-- the same of words, where the shelf tells its texts
abbrev pub ReportsTold : List (List ℕ) → Status → Outside → Outside → Type 0
ReportsTold words status before after = (t : Texts) → before.shelf ≡ Some t → Reports t.texts (run_of words) status before after

-- an answer other than want of memory is the status of each report
abbrev pub Completes : List (List ℕ) → Option Texts → Status → Type 0
Completes words told status = (t : Texts) → told ≡ Some t → status ≢ Memory → (r : Report) → IsReport words t.texts r → r.status ≡ status
