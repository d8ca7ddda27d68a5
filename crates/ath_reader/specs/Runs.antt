-- The code's stack, steps and what it sees, as the grammar's machine has them.
use Rattle.std.specs.Prelude.{List, [], ◌∷◌, Bool, Option, Some, None}
use Rattle.ath_grammar.specs.declared.item.Item.{Item}
use Rattle.ath_grammar.specs.Tables.{Start, no_start, begin, pass, both}
use Rattle.ath_grammar.specs.Machine.{Outcome, over, took, refused}
use Rattle.ath_grammar.specs.Tokens.{Placed, at}
use Rattle.ath_grammar.specs.Trees.{Value}
use Rattle.ath_builder.specs.Values.{held}
use Rattle.ath_reader.specs.declared.machine.Machine.{Machine}
use Rattle.ath_reader.specs.declared.machine.Step.{Step}
use Rattle.ath_reader.specs.declared.machine.Step.TheVariants.{Over, Took, Refused}
use Rattle.ath_reader.specs.declared.reader.Seen.{Seen}
use Rattle.ath_reader.specs.declared.reader.Seen.TheVariants.{Token, End, Fault}

-- a stack with its last first
abbrev pub turned : {A : Type 0} → List A → List A → List A
turned ys [] = ys
turned ys (x ∷ xs) = turned (x ∷ ys) xs

-- the items that are still to be read, the next one first
abbrev pub left : Machine → List Item
left m = turned [] m.items.items

-- the token that comes next
abbrev pub seen_of : Seen → Option Placed
seen_of (Token l p) = Some (at p l)
seen_of End = None
seen_of (Fault e) = None

abbrev pub shown : Step → Machine → Outcome (List Value)
shown (Over f) m = over f (held m.values)
shown (Took f) m = took f (left m) (held m.values)
shown Refused m = refused

-- with kinds before it that fit, or don't
abbrev pub fitting : Bool → Start → Start
fitting f no_start = no_start
fitting f (begin g h is) = begin (both f g) h is
fitting f (pass g xs) = no_start

abbrev pub OnOver : Step → Type 0 → Type 0
OnOver (Over f) P = P
OnOver (Took f) P = Unit {0}
OnOver Refused P = Unit {0}
