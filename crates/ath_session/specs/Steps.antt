-- What a step of a run has done.
use Rattle.std.specs.Prelude.{◌≡◌, ◌⊎◌, ℕ, ◌+◌, ◌-◌, ◌*◌, ◌^◌, ◌<◌, ◌≤◌, Bool, true, false, ◌||◌, List, [], ◌∷◌, ◌++◌, length, map, drop, take, reverse, string_bytes, Option, Some}
use Rattle.std.specs.List.{All}
use Rattle.ath_io.specs.Shelf.{Texts}
use Rattle.ath_io.specs.Sink.{Held}
use Rattle.ath_syntax.specs.declared.place.Pos.{Pos}
use Rattle.ath_syntax.specs.declared.directive.Directive.{Directive}
use Rattle.ath_syntax.specs.Stands.{IsDirective}
use Rattle.ath_syntax.specs.Tree.{DirectiveTree}
use Rattle.ath_reader.specs.Reading.{Reading, Progress, reached, refused}
use Rattle.ath_session.specs.declared.status.Status.{Status}
use Rattle.ath_session.specs.declared.status.Status.TheVariants.{Clean, Errors, Usage, Fuel, SourceFault, SinkFault, Memory}
use Rattle.ath_session.specs.declared.desk.Desk.{Desk}
use Rattle.ath_session.specs.declared.desk.Flow.{Flow}
use Rattle.ath_session.specs.declared.desk.Flow.TheVariants.{On, End}
use Rattle.ath_reader.specs.declared.limits.TheConstants.{MOST_BYTES}
use Rattle.ath_session.specs.declared.limits.TheConstants.{MOST_OPEN}
use Rattle.ath_session.specs.Said.{Said, line_said}
use Rattle.ath_session.specs.Run.{Item, asks, tells, Configuration, reading_of, Move, goes, halts, items_of, IsMove, all_run, out_of_fuel, taking}
use Rattle.ath_session.specs.Report.{has_error}
use Rattle.ath_session.specs.Directives.{effect}
use Rattle.ath_session.specs.Session.{state_of}
use Rattle.ath_session.specs.State.{first_state}
use Rattle.ath_session.specs.Ends.{Outside, after_items, after_part}

abbrev pub configuration_of : Desk → Configuration
configuration_of d = record {
  waiting = drop d.next (map string_bytes d.named.items);
  stack = reverse d.open.items;
  files = map string_bytes d.files.items;
  state = state_of d.session.world;
}

-- nothing is done yet, and these files are to be run with this fuel
pub record IsNewDesk (d : Desk) (fuel : ℕ) (files : List (List ℕ)) : Type 0 where
  pub named : map string_bytes d.named.items ≡ files
  pub next : d.next ≡ 0
  pub empty : d.open.items ≡ []
  pub no_files : d.files.items ≡ []
  pub state : state_of d.session.world ≡ first_state fuel
  pub errors : d.errors ≡ false

-- What is done of a move, where the run ends. `errors` says whether an error was told before.
abbrev pub Ended : Move → Status → Bool → Outside → Outside → Type 0
Ended m Clean errors o o' = (m ≡ halts [] all_run) × (errors ≡ false) × (o' ≡ o)
Ended m Errors errors o o' = (m ≡ halts [] all_run) × (errors ≡ true) × (o' ≡ o)
Ended m Fuel errors o o' = (items : List Item) × ((m ≡ halts items out_of_fuel) × (o' ≡ after_items o items))
Ended m SourceFault errors o o' = (name : List ℕ) × (more : List Item) × ((items_of m ≡ asks name ∷ more) × (o' ≡ after_items o (asks name ∷ [])))
Ended m SinkFault errors o o' = (front : List Item) × (more : List Item) × (s : Said) × (count : ℕ) × ((items_of m ≡ front ++ tells s ∷ more) × (o' ≡ after_part o front (take count (line_said s))))
Ended m Memory errors o o' = (front : List Item) × (more : List Item) × ((items_of m ≡ front ++ more) × (o' ≡ after_items o front))
Ended m Usage errors o o' = ⊥

-- What is done of a move, by how the run flows on: all of it, after which the configuration is this one and whether an error
-- was told is `after`; or what is done where the run ends.
abbrev pub Did : Move → Flow → Bool → Bool → Configuration → Outside → Outside → Type 0
Did m On before after c o o' = (items : List Item) × ((m ≡ goes items c) × (after ≡ (before || has_error items)) × (o' ≡ after_items o items))
Did m (End status) before after c o o' = Ended m status before o o'

-- what a step of a desk has done of a move
abbrev pub DeskDid : Move → Flow → Desk → Desk → Outside → Outside → Type 0
DeskDid m flow old new before after = Did m flow old.errors new.errors (configuration_of new) before after

abbrev pub outside : Option Texts → Option Held → Outside
outside texts held = record { shelf = texts; sink = held }

-- the same of the move that the texts make which the shelf tells
abbrev pub DidOver : (List (List ℕ × List ℕ) → Move) → Flow → Desk → Desk → Outside → Outside → Type 0
DidOver move flow old new before after = (t : Texts) → before.shelf ≡ Some t → DeskDid (move t.texts) flow old new before after

-- the same of the move that is next, over these texts
abbrev pub DidNext : Configuration → Flow → Desk → Desk → Outside → Outside → Type 0
DidNext c flow old new before after = (t : Texts) (m : Move) → before.shelf ≡ Some t → IsMove t.texts c m → DeskDid m flow old new before after

-- the same of a directive of the innermost text, and of what goes on after it
abbrev pub directive_move : List (List ℕ × List ℕ) → Desk → Pos → DirectiveTree → Move
directive_move texts old at d = taking texts (configuration_of old) (length old.open.items - 1) at (effect (configuration_of old).state d)

abbrev pub DidDirective : Directive → Flow → Desk → Desk → Outside → Outside → Type 0
DidDirective directive flow old new before after =
    (t : Texts) (d : DirectiveTree) → before.shelf ≡ Some t → IsDirective old.session.world.phrases directive d → DeskDid (directive_move t.texts old directive.pos d) flow old new before after

-- a text has been read up to a byte of it
abbrev pub IsGoing : Reading → Type 0
IsGoing r = (n : ℕ) × ((r.progress ≡ reached n) × (n ≤ length r.text))

abbrev pub AreGoing : Configuration → Type 0
AreGoing c = All IsGoing c.stack

-- at most one text more is open, from its beginning
abbrev pub Opens : Configuration → Configuration → Type 0
Opens c d = (d.waiting ≡ c.waiting) × ((d.stack ≡ c.stack) ⊎ ((file : ℕ) × (text : List ℕ) × ((length text ≤ MOST_BYTES) × (d.stack ≡ reading_of file text ∷ c.stack))))

-- a text that was fetched is open, or is too long
abbrev pub IsOpened : Configuration → List ℕ → List ℕ → Bool → Configuration → Type 0
IsOpened c name text true d = (length text ≤ MOST_BYTES) × (d ≡ record c { files = c.files ++ name ∷ []; stack = reading_of (length c.files) text ∷ c.stack })
IsOpened c name text false d = (MOST_BYTES < length text) × (d ≡ record c { files = c.files ++ name ∷ [] })

-- How much of a run is left, so that each step leaves less: the files that wait, and the bytes of the open texts, of which
-- one counts as much as a whole text in it.
abbrev pub whole_text : ℕ
whole_text = 2 + MOST_BYTES

abbrev pub bytes_left : Reading → Progress → ℕ
bytes_left r (reached n) = 1 + (length r.text - n)
bytes_left r (refused e) = 0

abbrev pub open_weight : List Reading → ℕ
open_weight [] = 0
open_weight (r ∷ rs) = bytes_left r r.progress * whole_text ^ (MOST_OPEN - length rs) + open_weight rs

abbrev pub weight : Configuration → ℕ
weight c = length c.waiting * whole_text ^ (1 + MOST_OPEN) + open_weight c.stack
