-- A run, as steps from one configuration to the next. A step reads a directive and runs it, or turns to the next file.
use Rattle.std.specs.Prelude.{◌≡◌, ℕ, nat_lt, List, [], ◌∷◌, ◌++◌, length, map, Option, Some, None, if◌then◌else◌}
use Rattle.ath_syntax.specs.declared.place.Pos.{Pos}
use Rattle.ath_syntax.specs.Tree.{DirectiveTree, directive_at}
use Rattle.ath_io.specs.Shelf.{front_of}
use Rattle.ath_tokens.specs.declared.tokens.LexKind.{LexKind}
use Rattle.ath_tokens.specs.declared.tokens.LexKind.TheVariants as lexical
use Rattle.ath_reader.specs.declared.reader.SyntaxKind.{SyntaxKind}
use Rattle.ath_reader.specs.declared.reader.SyntaxKind.TheVariants as syntax
use Rattle.ath_reader.specs.Reading.{Reading, reached}
use Rattle.ath_reader.specs.Next as reading
use Rattle.ath_print.specs.declared.fault.FaultKind.{FaultKind}
use Rattle.ath_print.specs.declared.fault.FaultKind.TheVariants.{BadUtf8, BadChar, OpenString, NameTooLong, Unexpected, Unclosed, KindMix, TooDeep, FileTooLong, TooManyLoads, NotBuilt}
use Rattle.ath_print.specs.Events as events
use Rattle.ath_eval.specs.Outcomes.{refusal}
use Rattle.ath_reader.specs.declared.limits.TheConstants.{MOST_BYTES}
use Rattle.ath_session.specs.declared.limits.TheConstants.{MOST_ASKED, MOST_LOADS}
use Rattle.ath_session.specs.Said.{Said}
use Rattle.ath_session.specs.State.{State, with_names}
use Rattle.ath_session.specs.Directives.{Continuation, goes_on, loads, ends, Effect, effect}

-- what a run does that is seen: it asks for the text of a name, or tells an event
pub data Item : Type 0 where
  asks : List ℕ → Item
  tells : Said → Item

-- the files of the command line that are still to be run; the texts that are open, the innermost first; the names of all
-- texts that were fetched, by the number of their reading; and the state
pub record Configuration : Type 0 where
  pub waiting : List (List ℕ)
  pub stack : List Reading
  pub files : List (List ℕ)
  pub state : State

-- why a run is over: all files are run; no fuel is left; or there is no text of the name that was asked for last
pub data Halt : Type 0 where
  all_run : Halt
  out_of_fuel : Halt
  no_text : Halt

-- some items, and the configuration after them or why the run is over
pub data Move : Type 0 where
  goes : List Item → Configuration → Move
  halts : List Item → Halt → Move

abbrev pub items_of : Move → List Item
items_of (goes items c) = items
items_of (halts items h) = items

abbrev pub said : Configuration → events.Event → Item
said c e = tells (record { event = e; names = c.state.names; signature = c.state.signature; files = c.files })

abbrev pub reading_of : ℕ → List ℕ → Reading
reading_of file text = record { text = text; file = file; progress = reached 0 }

-- a text is opened, unless it is too long: the place of that is the load's, or the file's own beginning
abbrev pub opened : Configuration → Pos → List ℕ → List ℕ → Move
opened c at name text =
    let named = record c { files = c.files ++ name ∷ [] } in
    if nat_lt MOST_BYTES (length text)
    then goes (asks name ∷ said named (events.refused at (refusal FileTooLong [])) ∷ []) named
    else goes (asks name ∷ []) (record named { stack = reading_of (length c.files) text ∷ c.stack })

-- the run ends at a name without a text
abbrev pub fetched : Configuration → Pos → List ℕ → Option (List ℕ) → Move
fetched c at name None = halts (asks name ∷ []) no_text
fetched c at name (Some text) = opened c at name text

-- the text of a name among these texts, each with its name
abbrev pub asking : List (List ℕ × List ℕ) → Configuration → Pos → List ℕ → Move
asking texts c at name = fetched c at name (front_of texts name MOST_ASKED)

abbrev pub beginning_of : ℕ → Pos
beginning_of file = record { file = file; line = 1; col = 1 }

-- the next file of the command line
abbrev pub next_file : List (List ℕ × List ℕ) → Configuration → List (List ℕ) → Move
next_file texts c [] = halts [] all_run
next_file texts c (name ∷ names) = asking texts (record c { waiting = names }) (beginning_of (length c.files)) name

abbrev pub tell_all : Configuration → List events.Event → List Item
tell_all c es = map (said c) es

-- events are told, and nothing else changes
abbrev pub saying_all : Configuration → List events.Event → Move
saying_all c es = goes (tell_all c es) c

abbrev pub saying : Configuration → events.Event → Move
saying c e = goes (said c e ∷ []) c

-- what goes on after a directive; `outer` is the number of texts that are open around its own
abbrev pub following : List (List ℕ × List ℕ) → Configuration → ℕ → Pos → List events.Event → Continuation → Move
following texts c outer at es goes_on = saying_all c es
following texts c outer at es ends = halts (tell_all c es) out_of_fuel
following texts c outer at es (loads name) =
    if nat_lt outer MOST_LOADS
    then asking texts c at name
    else saying c (events.refused at (refusal TooManyLoads []))

-- what goes on after a directive with this effect
abbrev pub taking : List (List ℕ × List ℕ) → Configuration → ℕ → Pos → Effect → Move
taking texts c outer at e = following texts (record c { state = e.state }) outer at e.events e.next

-- a text is open, and the innermost one
abbrev pub with_open : Reading → Configuration → Configuration
with_open r c = record c { stack = r ∷ c.stack }

-- a syntax error has the kind of its fault
abbrev pub lexical_kind : LexKind → FaultKind
lexical_kind lexical.BadUtf8 = BadUtf8
lexical_kind lexical.BadChar = BadChar
lexical_kind lexical.OpenString = OpenString
lexical_kind lexical.NameTooLong = NameTooLong
lexical_kind lexical.Memory = NotBuilt

-- want of memory is no refusal of a text
abbrev pub fault_kind : SyntaxKind → FaultKind
fault_kind (syntax.Lex k) = lexical_kind k
fault_kind syntax.Unexpected = Unexpected
fault_kind syntax.Unclosed = Unclosed
fault_kind syntax.KindMix = KindMix
fault_kind syntax.TooDeep = TooDeep
fault_kind syntax.Memory = NotBuilt

abbrev pub place_of : DirectiveTree → Pos
place_of (directive_at at s) = at

-- the innermost text is read on: a directive is run, a syntax error is told and ends the text, and so does its end
abbrev pub turned : List (List ℕ × List ℕ) → Configuration → Reading → List Reading → reading.Upcoming → Move
turned texts c r rs (reading.whole d to known) =
    taking texts (record c { stack = record r { progress = reached to } ∷ rs }) (length rs) (place_of d) (effect (with_names known c.state) d)
turned texts c r rs reading.ended = goes [] (record c { stack = rs })
turned texts c r rs (reading.stopped e known) =
    saying (record c { stack = rs; state = with_names known c.state }) (events.refused e.pos (refusal (fault_kind e.kind) []))

-- the next step, by whether a text is open
abbrev pub IsTurn : List (List ℕ × List ℕ) → Configuration → List Reading → Move → Type 0
IsTurn texts c [] m = m ≡ next_file texts c c.waiting
IsTurn texts c (r ∷ rs) m = (n : reading.Upcoming) × reading.IsNext r c.state.names (reading.byte_reached r.progress) n × (m ≡ turned texts c r rs n)

-- the next step of a run over these texts
abbrev pub IsMove : List (List ℕ × List ℕ) → Configuration → Move → Type 0
IsMove texts c m = IsTurn texts c c.stack m

-- some steps, and what they did
pub data Runs (texts : List (List ℕ × List ℕ)) (start : Configuration) : List Item → Configuration → Type 0 where
  at_start : Runs texts start [] start
  one_more : {done : List Item} {c d : Configuration} (items : List Item) → Runs texts start done c → IsMove texts c (goes items d) → Runs texts start (done ++ items) d
