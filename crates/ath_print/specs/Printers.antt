-- Printing within a line. The sort variables of one line have numbers, in the order in which they occur first, so that each
-- piece is printed after what the line has shown before it.
use Rattle.std.specs.Prelude.{◌≡◌, ℕ, ◌-◌, nat_lt, Bool, true, false, List, [], ◌∷◌, ◌++◌, length, codes, if◌then◌else◌}
use Rattle.ath_sorts.specs.declared.sorts.SVar.{SVar}
use Rattle.ath_print.specs.declared.draft.Draft.{Draft}
use Rattle.ath_print.specs.declared.draft.Output.{Output}
use Rattle.ath_print.specs.declared.draft.Output.TheVariants.{Kept, Room, Full}

-- a text, and the sort variables that the line has shown up to its end
pub record Printed : Type 0 where
  pub text : List ℕ
  pub seen : List SVar

-- what is printed where these sort variables have been shown before
abbrev pub Printer : Type 0
Printer = List SVar → Printed

abbrev pub word : List ℕ → Printer
word text seen = record { text = text; seen = seen }

abbrev pub in_turn : List Printer → Printer
in_turn [] seen = record { text = []; seen = seen }
in_turn (p ∷ ps) seen =
    let first = p seen in
    let others = in_turn ps first.seen in
    record { text = first.text ++ others.text; seen = others.seen }

-- each after one space
abbrev pub spaced : List Printer → Printer
spaced [] = in_turn []
spaced (p ∷ ps) = in_turn (word (codes " ") ∷ p ∷ spaced ps ∷ [])

-- a head alone, or in parentheses with its parts after it
abbrev pub item : List ℕ → List Printer → Printer
item head [] = word head
item head (p ∷ ps) = in_turn (word (codes "(") ∷ word head ∷ spaced (p ∷ ps) ∷ word (codes ")") ∷ [])

-- ---- the code's lines
-- A line in the making: its bytes so far, or how many more it may have where they are only counted, and the sort variables
-- that it has shown. Of a line that got too long no more is known.
pub data Line : Type 0 where
  built : List ℕ → List SVar → Line
  counted : ℕ → List SVar → Line
  too_long : Line

abbrev pub line_from : Output → List SVar → Line
line_from (Kept text) seen = built text.items seen
line_from (Room room) seen = counted room seen
line_from Full seen = too_long

abbrev pub line_in : Draft → Line
line_in draft = line_from draft.output draft.seen.items

-- a line that goes on
abbrev pub after : Printer → Line → Line
after p (built text seen) = built (text ++ (p seen).text) (p seen).seen
after p (counted room seen) = if nat_lt room (length (p seen).text) then too_long else counted (room - length (p seen).text) (p seen).seen
after p too_long = too_long

abbrev pub GoesOn : Printer → Draft → Draft → Type 0
GoesOn p old new = line_in new ≡ after p (line_in old)

abbrev pub is_too_long : Line → Bool
is_too_long (built text seen) = false
is_too_long (counted room seen) = false
is_too_long too_long = true

-- a line of which the sort variables that it has shown aren't asked any more
abbrev pub unseen : Line → Line
unseen (built text seen) = built text []
unseen (counted room seen) = counted room []
unseen too_long = too_long

-- a line that has shown no sort variables yet goes on by this text
abbrev pub Tells : List ℕ → Draft → Draft → Type 0
Tells text old new = unseen (line_in new) ≡ after (word text) (line_in old)
