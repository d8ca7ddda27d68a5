-- The report of words and texts: what is done that is seen, in order, and the status.
use Rattle.std.specs.Prelude.{◌≡◌, ℕ, Bool, false, List, [], ◌∷◌, ◌++◌, map, Option, Some, None, if◌then◌else◌}
use Rattle.std.specs.List.{list_any}
use Rattle.ath_words.specs.Words.{Asked, run_of}
use Rattle.ath_print.specs.Events.{is_refused}
use Rattle.ath_session.specs.declared.status.Status.{Status}
use Rattle.ath_session.specs.declared.status.Status.TheVariants.{Clean, Errors, Usage, Fuel, SourceFault}
use Rattle.ath_session.specs.Said.{Said, line_said}
use Rattle.ath_session.specs.State.{first_state}
use Rattle.ath_session.specs.Run.{Item, asks, tells, Configuration, Halt, all_run, out_of_fuel, no_text, halts, IsMove, Runs}

-- what is done that is seen, in order, and the status
pub record Report : Type 0 where
  pub log : List Item
  pub status : Status

-- the names asked for, in order
abbrev pub names_in : List Item → List (List ℕ)
names_in [] = []
names_in (asks name ∷ items) = name ∷ names_in items
names_in (tells s ∷ items) = names_in items

-- what is told, in order
abbrev pub said_in : List Item → List Said
said_in [] = []
said_in (asks name ∷ items) = said_in items
said_in (tells s ∷ items) = s ∷ said_in items

-- the lines, in order
abbrev pub lines_in : List Item → List (List ℕ)
lines_in items = map line_said (said_in items)

abbrev pub is_error : Item → Bool
is_error (asks name) = false
is_error (tells s) = is_refused s.event

abbrev pub has_error : List Item → Bool
has_error items = list_any is_error items

-- a run that goes to its end has errors where one of its events is an error
abbrev pub status_of : Halt → List Item → Status
status_of all_run log = if has_error log then Errors else Clean
status_of out_of_fuel log = Fuel
status_of no_text log = SourceFault

abbrev pub start : Asked → Configuration
start run = record { waiting = run.files; stack = []; files = []; state = first_state run.fuel }

-- the whole log of a run
pub record IsLogOf (texts : List (List ℕ × List ℕ)) (from : Configuration) (log : List Item) (h : Halt) : Type 0 where
  pub done : List Item
  pub last : List Item
  pub final : Configuration
  pub runs : Runs texts from done final
  pub over : IsMove texts final (halts last h)
  pub all : log ≡ done ++ last

abbrev pub IsReportOf : List (List ℕ × List ℕ) → Option Asked → Report → Type 0
IsReportOf texts None r = r ≡ record { log = []; status = Usage }
IsReportOf texts (Some run) r = (h : Halt) × IsLogOf texts (start run) r.log h × (r.status ≡ status_of h r.log)

-- the report of the words, over these texts by name: words that spell no run are a usage fault
abbrev pub IsReport : List (List ℕ) → List (List ℕ × List ℕ) → Report → Type 0
IsReport words texts r = IsReportOf texts (run_of words) r
