-- Laws of directives, runs and reports.
use Rattle.std.specs.Prelude.{◌≡◌, ℕ, ◌≤◌, true, List, [], ◌∷◌}
use Rattle.std.specs.List.{list_any}
use Rattle.ath_syntax.specs.declared.place.Pos.{Pos}
use Rattle.ath_syntax.specs.Tree.{DirectiveTree}
use Rattle.ath_print.specs.Events.{Event, exhausted, is_refused, is_exhausted}
use Rattle.ath_session.specs.State.{State}
use Rattle.ath_session.specs.Directives.{ends, effect}
use Rattle.ath_session.specs.Believed.{AreBelieved}
use Rattle.ath_session.specs.Report.{Report, said_in, IsReport}

-- the words and the texts have one report at most
abbrev pub OneReport : Type 0
OneReport = (words : List (List ℕ)) (texts : List (List ℕ × List ℕ)) (r s : Report) → IsReport words texts r → IsReport words texts s → r ≡ s

-- the words and the texts have a report: a run ends
abbrev pub SomeReport : Type 0
SomeReport = (words : List (List ℕ)) (texts : List (List ℕ × List ℕ)) → (r : Report) × IsReport words texts r

-- what a report tells may be believed: its theorems have derivations from what was asserted before them
abbrev pub EachReportIsBelieved : Type 0
EachReportIsBelieved = (words : List (List ℕ)) (texts : List (List ℕ × List ℕ)) (r : Report) → IsReport words texts r → AreBelieved (said_in r.log)

-- a state but for its fuel and its counters
abbrev pub IsSameButLeft : State → State → Type 0
IsSameButLeft old new = new ≡ record old { fuel = new.fuel; fresh = new.fresh }

-- a directive that is refused has that one event, and leaves all of the state but the fuel and the counters
abbrev pub RefusedLeavesState : Type 0
RefusedLeavesState = (st : State) (d : DirectiveTree) → list_any is_refused (effect st d).events ≡ true → IsSameButLeft st (effect st d).state × ((e : Event) × ((effect st d).events ≡ e ∷ []))

-- a directive never adds fuel, and the counters never fall
abbrev pub FuelNeverRises : Type 0
FuelNeverRises = (st : State) (d : DirectiveTree) → ((effect st d).state.fuel ≤ st.fuel) × (st.fresh.var ≤ (effect st d).state.fresh.var) × (st.fresh.sort ≤ (effect st d).state.fresh.sort)

-- a directive that is exhausted has that one event, leaves all of the state but the counters and the fuel, of which none is left, and ends the run
abbrev pub ExhaustedKeepsState : Type 0
ExhaustedKeepsState = (st : State) (d : DirectiveTree) → list_any is_exhausted (effect st d).events ≡ true → IsSameButLeft st (effect st d).state × ((effect st d).state.fuel ≡ 0) × ((effect st d).next ≡ ends) × ((at : Pos) × ((effect st d).events ≡ exhausted at ∷ []))
