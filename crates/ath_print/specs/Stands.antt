-- What the code's faults and events stand for.
use Rattle.std.specs.Prelude.{◌≡◌, ◌<◌, ℕ, List, Option, Some, None, map, length}
use Rattle.std.specs.List.{All}
use Rattle.ath_terms.specs.Trees.{Trees, term_at, sent_at}
use Rattle.ath_env.specs.Stands.{value_at, IsIn as IsValueIn}
use Rattle.ath_print.specs.declared.fault.Fault.{Fault}
use Rattle.ath_print.specs.declared.fault.FaultArg.{FaultArg}
use Rattle.ath_print.specs.declared.fault.FaultArg.TheVariants.{Sent, Term, Sort, Name, SortName, Number}
use Rattle.ath_print.specs.declared.event.Event.{Event as Told}
use Rattle.ath_print.specs.declared.event.Event.TheVariants.{Domain, Symbols, Assertion, Theorem, Shown, Error, Fuel}
use Rattle.ath_print.specs.Lines.{quoted_file, no_file}
use Rattle.ath_print.specs.Events.{Argument, sentence_named, term_named, sort_named, variable_named, name_named, number_named, Refusal, Event, domain_added, symbols_added, asserted, proved, shown, refused, exhausted}

abbrev pub argument_of : Trees → FaultArg → Argument
argument_of s (Sent p) = sentence_named (sent_at s.sents p.0)
argument_of s (Term t) = term_named (term_at s.terms t.0)
argument_of s (Sort r) = sort_named r
argument_of s (SortName n) = variable_named n
argument_of s (Name n) = name_named n
argument_of s (Number n) = number_named n

abbrev pub IsArgumentIn : Trees → FaultArg → Type 0
IsArgumentIn s (Sent p) = p.0 < length s.sents
IsArgumentIn s (Term t) = t.0 < length s.terms
IsArgumentIn s (Sort r) = Unit {0}
IsArgumentIn s (SortName n) = Unit {0}
IsArgumentIn s (Name n) = Unit {0}
IsArgumentIn s (Number n) = Unit {0}

abbrev pub refusal_of : Trees → Fault → Refusal
refusal_of s f = record { kind = f.kind; args = map (argument_of s) f.args }

-- the numbers that it names are numbers of the store
abbrev pub IsFaultIn : Trees → Fault → Type 0
IsFaultIn s f = All (IsArgumentIn s) f.args

abbrev pub IsRefusal : Trees → Fault → Refusal → Type 0
IsRefusal s f why = IsFaultIn s f × (refusal_of s f ≡ why)

abbrev pub event_of : Trees → Told → Event
event_of s (Domain n) = domain_added n
event_of s (Symbols ns) = symbols_added ns
event_of s (Assertion p) = asserted (sent_at s.sents p.0)
event_of s (Theorem p) = proved (sent_at s.sents p.0)
event_of s (Shown v) = shown (value_at s v)
event_of s (Error at why) = refused at (refusal_of s why)
event_of s (Fuel at) = exhausted at

abbrev pub IsEventIn : Trees → Told → Type 0
IsEventIn s (Domain n) = Unit {0}
IsEventIn s (Symbols ns) = Unit {0}
IsEventIn s (Assertion p) = p.0 < length s.sents
IsEventIn s (Theorem p) = p.0 < length s.sents
IsEventIn s (Shown v) = IsValueIn s v
IsEventIn s (Error at why) = IsFaultIn s why
IsEventIn s (Fuel at) = Unit {0}

abbrev pub IsEvent : Trees → Told → Event → Type 0
IsEvent s e x = IsEventIn s e × (event_of s e ≡ x)

-- how the file of a place is written, where names of files are
abbrev pub file_of : Option (List (List ℕ)) → ℕ → List ℕ
file_of (Some files) = quoted_file files
file_of None = no_file
