-- The command as clap's definitions have it, and where its walk over the words stands.
use Rattle.std.proofs.Common.{◌≡◌, ◌∷◌, Bool, true, false, List, [], Option, Some, None, refl, ap₂}
use Rattle.std.specs.Prelude.{fold}
use Rattle.clap.specs.Walk.{Held, Row, Rule, Text, Waiting, Walk, settled, settled_rows, walked}
use Rattle.clap.specs.Simple.{Shape, built}
use Rattle.clap.specs.Kinds.{Kinds, or_else}
use Rattle.clap.specs.Faults.{is_simple_and_free, settle_fault, turn_fault, walk_fault}
use Rattle.clap.specs.declared.builder.action.ArgAction.TheVariants.{Set}
use Rattle.clap.specs.declared.builder.range.ValueRange.{ValueRange}
use Rattle.clap.specs.declared.builder.value_parser.ValueParser.TheVariants as vp
use Rattle.ath_words.specs.Command.{athena, file_arg, fuel_arg, said_by_rows}
use Rattle.ath_words.specs.Words.{Asked, asked_by}

pub athena_is_simple : is_simple_and_free athena ≡ true
athena_is_simple = refl

abbrev pub top : Shape
top = (built athena).top

-- the arguments as they are built
abbrev one : ValueRange
one = record { start_inclusive = 1; end_inclusive = 1 }

abbrev pub fuel_rule : Rule
fuel_rule = record fuel_arg { action = Some Set; range = Some one; parser = Some vp.String }

abbrev pub file_rule : Rule
file_rule = record file_arg { range = Some one; parser = Some vp.String; index = Some 1 }

abbrev pub rules : List Rule
rules = fuel_rule ∷ file_rule ∷ []

pub rules_are : top.rules ≡ rules
rules_are = refl

-- ---- the walk

-- the argument whose values are being read
abbrev pub Pending : Type 0
Pending = Option (Text × List Text)

abbrev pub held : List Row → Pending → Held
held rows p = record { rows = rows; pending = p; skip = 0 }

abbrev pub at : List Row → Pending → Waiting → Bool → Walk
at rows p waiting is_trailing =
    record { held = held rows p; waiting = waiting; position = 1; is_trailing = is_trailing; stopped = None }

-- the rows once what is pending is used, and what is wrong with it
abbrev pub rows_with : List Row → Pending → List Row
rows_with rows p = settled_rows rules p rows

abbrev pub fault_with : List Row → Pending → Kinds
fault_with rows p = settle_fault rules false (held rows p)

-- what the matches say, where there is no fault
abbrev pub answer : Kinds → List Row → Option Asked
answer [] rows = asked_by (said_by_rows rows)
answer (kind ∷ kinds) rows = None

-- the answer at the end of a walk, with the faults that it met
abbrev pub ended : Kinds → Walk → Option Asked
ended kinds end = answer (or_else kinds (settle_fault rules false end.held)) (settled rules end.held).rows

abbrev pub answer_from : Walk → List Text → Option Asked
answer_from w words = ended (walk_fault top [] w words) (fold (walked rules []) w words)

-- a word without a fault leads on, and a word with one ends
pub goes_on : (w after : Walk) (word : Text) (words : List Text) → turn_fault top [] w word ≡ [] → walked rules [] w word ≡ after
    → answer_from w (word ∷ words) ≡ answer_from after words
unfolding walk_fault
goes_on w after word words none next =
    ap₂ (λ (kinds : Kinds) (v : Walk). ended (or_else kinds (walk_fault top [] v words)) (fold (walked rules []) v words)) none next

abbrev pub HasFault : Kinds → Type 0
HasFault [] = ⊥
HasFault (kind ∷ kinds) = Unit {0}

pub stops : (w : Walk) (word : Text) (words : List Text) → HasFault (turn_fault top [] w word) → answer_from w (word ∷ words) ≡ None
unfolding walk_fault
stops w word words bad = by (turn_fault top [] w word) bad
  where
    by : (kinds : Kinds) → HasFault kinds
        → ended (or_else kinds (walk_fault top [] (walked rules [] w word) words)) (fold (walked rules []) (walked rules [] w word) words) ≡ None
    by [] h = absurd h
    by (k ∷ ks) h = refl
