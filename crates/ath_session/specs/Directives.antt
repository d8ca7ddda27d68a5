-- The effect of a directive: the state after it, and its events. One that is refused has one event, and keeps all of the
-- state but the fuel and the counters.
use Rattle.std.specs.Prelude.{ℕ, nat_lt, Bool, true, false, List, [], ◌∷◌, map, sum, Option, Some, None, Result, Ok, Err, if◌then◌else◌}
use Rattle.ath_sorts.specs.declared.signature.Flaw.{Flaw}
use Rattle.ath_sorts.specs.declared.signature.Flaw.TheVariants as flaw
use Rattle.ath_sorts.specs.Signature.{Signature}
use Rattle.ath_declarations.specs.Declarations as after
use Rattle.ath_syntax.specs.declared.place.Pos.{Pos}
use Rattle.ath_syntax.specs.Tree.{Phrase, Statement, domain_is, datatype_is, declare_is, define_is, define_fun_is, assert_is, load_is, phrase_is, DirectiveTree, directive_at}
use Rattle.ath_terms.specs.declared.fresh.Fresh.{Fresh}
use Rattle.ath_trees.specs.Tree.{Sent}
use Rattle.ath_construction.specs.Construction.{Built, builds, refuses}
use Rattle.ath_construction.specs.Closure.{universal_closure}
use Rattle.ath_env.specs.Values.{sentence_of}
use Rattle.ath_print.specs.declared.fault.FaultKind.TheVariants.{NotBuilt, NotSentence, Redeclared, TooWide, UnknownSort, Arity, SortTooLarge, LooseParam, LineTooLong}
use Rattle.ath_print.specs.declared.limits.TheConstants.{MOST_LINE_BYTES}
use Rattle.ath_print.specs.Events.{name_named, variable_named, Refusal, Event, domain_added, symbols_added, asserted, proved, shown, refused, exhausted}
use Rattle.ath_print.specs.Lines.{bytes_of_line}
use Rattle.ath_eval.specs.Building.{told}
use Rattle.ath_eval.specs.Outcomes.{left_of, Outcome, gives, concludes, fails, exhausts, refusal}
use Rattle.ath_eval.specs.Evaluation.{outcome_of}
use Rattle.ath_syntax.specs.Places.{place}
use Rattle.ath_base.specs.declared.entry.Origin.TheVariants.{Asserted, Concluded}
use Rattle.ath_session.specs.State.{State, context, environment, left, with_left, with_signature, joining}
use Rattle.ath_session.specs.Unbuilt.{unbuilt_in}

-- how the run goes on: with the next directive; with the text of a file in the directive's place; or not at all
pub data Continuation : Type 0 where
  goes_on : Continuation
  loads : List ℕ → Continuation
  ends : Continuation

-- the state after a directive, its events in order, and how the run goes on
pub record Effect : Type 0 where
  pub state : State
  pub events : List Event
  pub next : Continuation

abbrev pub telling : State → Event → Effect
telling st e = record { state = st; events = e ∷ []; next = goes_on }

abbrev pub refusing : State → Pos → Refusal → Effect
refusing st at why = telling st (refused at why)

-- why a declaration is refused; an unknown sort is told by its name, or as the sort variable that isn't listed
abbrev pub declaration_refusal : Flaw → Refusal
declaration_refusal (flaw.Redeclared n) = refusal Redeclared (name_named n ∷ [])
declaration_refusal (flaw.TooWide n) = refusal TooWide (name_named n ∷ [])
declaration_refusal (flaw.UnknownVariable n) = refusal UnknownSort (variable_named n ∷ [])
declaration_refusal (flaw.UnknownSort n) = refusal UnknownSort (name_named n ∷ [])
declaration_refusal (flaw.Arity n) = refusal Arity (name_named n ∷ [])
declaration_refusal flaw.SortTooLarge = refusal SortTooLarge []
declaration_refusal (flaw.LooseParam n) = refusal LooseParam (variable_named n ∷ [])

-- a domain or symbols are declared, or they are refused
abbrev pub declaring : State → Pos → Event → Result Signature Flaw → Effect
declaring st at event (Ok sig) = telling (with_signature st sig) event
declaring st at event (Err f) = refusing st at (declaration_refusal f)

-- no fuel is left, and the run ends
abbrev pub ending : State → Pos → Fresh → Effect
ending st at made = record { state = with_left st (left_of 0 made); events = exhausted at ∷ []; next = ends }

-- what is asserted of a sentence: itself, or where it is to be closed its universal closure
abbrev pub to_assert : Bool → Sent → Built Sent
to_assert false p = builds p
to_assert true p = universal_closure p

-- a sentence joins the base as asserted
abbrev pub asserting_built : State → Pos → Built Sent → Effect
asserting_built st at (builds p) = telling (joining st Asserted p) (asserted p)
asserting_built st at (refuses why) = refusing st at (told why)

abbrev pub asserting_sentence : State → Bool → Pos → Option Sent → Effect
asserting_sentence st closed at (Some p) = asserting_built st at (to_assert closed p)
asserting_sentence st closed at None = refusing st at (refusal NotSentence [])

abbrev pub asserting : State → Bool → Pos → Outcome → Effect
asserting st closed at (gives v after) = asserting_sentence (with_left st after) closed at (sentence_of v)
asserting st closed at (concludes p after) = asserting_sentence (with_left st after) closed at (Some p)
asserting st closed at (fails inner why after) = refusing (with_left st after) inner why
asserting st closed at (exhausts inner made) = ending st inner made

-- a conclusion joins the base, and a value is shown
abbrev pub showing : State → Outcome → Effect
showing st (gives v after) = telling (with_left st after) (shown v)
showing st (concludes p after) = telling (joining (with_left st after) Concluded p) (proved p)
showing st (fails at why after) = refusing (with_left st after) at why
showing st (exhausts at made) = ending st at made

-- the text of this file is to be run next
abbrev pub loading : State → List ℕ → Effect
loading st name = record { state = st; events = []; next = loads name }

-- the outcome of a phrase in this state
abbrev pub outcome_in : State → Phrase → Outcome
outcome_in st x = outcome_of (context st) (environment st) x (left st)

-- a directive that is built
abbrev pub done : State → Pos → Statement → Effect
done st at (domain_is n vs) = declaring st at (domain_added n) (after.domain_declared st.signature n vs)
done st at (declare_is ns params args result) = declaring st at (symbols_added ns) (after.declared st.signature ns params args result)
done st at (assert_is n closed x) = asserting st closed (place x) (outcome_in st x)
done st at (load_is name) = loading st name
done st at (phrase_is x) = showing st (outcome_in st x)
done st at (datatype_is n vs cs) = refusing st at (refusal NotBuilt [])
done st at (define_is n x) = refusing st at (refusal NotBuilt [])
done st at (define_fun_is f xs x) = refusing st at (refusal NotBuilt [])

abbrev pub unless_unbuilt : State → Pos → Statement → Option Pos → Effect
unless_unbuilt st at s (Some inner) = refusing st inner (refusal NotBuilt [])
unless_unbuilt st at s None = done st at s

-- the bytes of the lines of these events in a state, without names of files
abbrev pub bytes_of_lines : State → List Event → ℕ
bytes_of_lines st es = sum (map (bytes_of_line st.names st.signature) es)

-- a directive of which the lines would be too long is refused at its place
abbrev pub limited : State → Pos → Effect → Effect
limited st at e = if nat_lt MOST_LINE_BYTES (bytes_of_lines e.state e.events) then refusing (with_left st (left e.state)) at (refusal LineTooLong []) else e

-- what isn't built is told before anything is evaluated
abbrev pub effect : State → DirectiveTree → Effect
effect st (directive_at at s) = limited st at (unless_unbuilt st at s (unbuilt_in st.names at s))
