-- The steps of a reader.
use Rattle.std.specs.Prelude.{◌≡◌, ℕ, ◌<◌, ◌≤◌, List, length, Bool, true, false, Option, Some, None, Result, Ok, Err, ◌⊎◌}
use Rattle.ath_syntax.specs.declared.directive.Directive.{Directive}
use Rattle.ath_syntax.specs.Nodes as syntax
use Rattle.ath_numbering.specs.declared.tree.DirectiveTree.{DirectiveTree}
use Rattle.ath_numbering.specs.Trees.{directive_of}
use Rattle.ath_builder.specs.Values.{held, directive_in}
use Rattle.ath_grammar.specs.Tokens.{at, class_of_lexeme}
use Rattle.ath_grammar.specs.Grammar.{grammar}
use Rattle.ath_grammar.specs.Levels.{depth_of, take_class}
use Rattle.ath_grammar.specs.Machine.{Outcome, over, took, refused as no_way, advance}
use Rattle.ath_grammar.specs.Trees.{Value, v1, trees}
use Rattle.ath_names.specs.Names as table
use Rattle.ath_tokens.specs.Cut.{place_of}
use Rattle.ath_tokens.specs.Cutting.{Cutting}
use Rattle.ath_reader.specs.declared.limits.TheConstants.{MOST_LEVELS}
use Rattle.ath_reader.specs.declared.reader.Seen.{Seen}
use Rattle.ath_reader.specs.declared.reader.Seen.TheVariants.{Token, End, Fault}
use Rattle.ath_reader.specs.declared.reader.SyntaxError.{SyntaxError}
use Rattle.ath_reader.specs.declared.reader.SyntaxKind.{SyntaxKind}
use Rattle.ath_reader.specs.declared.reader.Taken.{Taken}
use Rattle.ath_reader.specs.declared.reader.Taken.TheVariants.{On, Whole}
use Rattle.ath_reader.specs.declared.reader.Begun.{Begun}
use Rattle.ath_reader.specs.Runs.{left, seen_of}
use Rattle.ath_reader.specs.declared.reader.SyntaxKind.TheVariants.{Lex, Unexpected, Unclosed, KindMix, TooDeep, Memory}
use Rattle.ath_reader.specs.Ahead.{Ahead, a_token, the_end, a_fault, ahead, names_past}
use Rattle.ath_reader.specs.Reading.{Reading, reached, Front, IsWhole, Refuses}
use Rattle.ath_reader.specs.Answering.{Finds, Wants}

abbrev pub next_of : Cutting → List (List ℕ) → Ahead
next_of c names = ahead c.file c.text names c.at

-- what becomes of what was read by what comes next, as the grammar's machine has it
abbrev pub outcome : Begun → Seen → Outcome (List Value)
outcome b seen = advance trees grammar (seen_of seen) (left b.machine) (held b.machine.values)

-- no directive is whole there
abbrev pub IsNotOver : Outcome (List Value) → Type 0
IsNotOver o = (us : List Value) → o ≡ over true us → ⊥

-- why a token isn't taken; the number is that of the levels behind it
abbrev pub Rejects : Outcome (List Value) → ℕ → SyntaxKind → Type 0
Rejects no_way n Unexpected = Unit {0}
Rejects (over false us) n Unexpected = Unit {0}
Rejects (took false is us) n KindMix = Unit {0}
Rejects (took true is us) n TooDeep = MOST_LEVELS < n
Rejects o n kind = ⊥

-- what comes next, and the place and the names behind it
abbrev pub Looks : Cutting → List (List ℕ) → Result Seen SyntaxError → Cutting → List (List ℕ) → Type 0
Looks old names (Ok (Token l p)) new names' = (next_of old names ≡ a_token (at p l) names' new.at) × (old.at < new.at) × (new.at ≤ length old.text) × (new ≡ record old { at = new.at })
Looks old names (Ok End) new names' = (next_of old names ≡ the_end) × (names' ≡ names) × (new ≡ record old { at = length old.text })
Looks old names (Ok (Fault e)) new names' = (n : ℕ) × (next_of old names ≡ a_fault e.kind n) × (e.pos ≡ place_of old.file old.text n) × (names' ≡ names) × (new.text ≡ old.text) × (new.file ≡ old.file)
Looks old names (Err e) new names' = (e.kind ≡ Memory) × table.KeepsNames names names' × (new.text ≡ old.text) × (new.file ≡ old.file)

-- the refusal of what comes next
abbrev pub Refusal : Cutting → Begun → Seen → SyntaxError → Type 0
Refusal c b (Token l p) e = (e.pos ≡ p) × Rejects (outcome b (Token l p)) (depth_of (take_class (class_of_lexeme l) b.levels)) e.kind
Refusal c b End e = (e ≡ record { kind = Unclosed; pos = place_of c.file c.text (length c.text) }) × IsNotOver (outcome b End)
Refusal c b (Fault x) e = (e ≡ record { kind = Lex x.kind; pos = x.pos }) × IsNotOver (outcome b (Fault x))

-- a token is taken, with no more levels than may be
abbrev pub TakesOn : Begun → Seen → Begun → Type 0
TakesOn b (Token l p) new = (outcome b (Token l p) ≡ took true (left new.machine) (held new.machine.values)) × (new.levels ≡ take_class (class_of_lexeme l) b.levels) × (depth_of new.levels ≤ MOST_LEVELS)
TakesOn b seen new = ⊥

-- a refusal, with the kind that it has at a token
abbrev pub refusal_of : Cutting → Seen → SyntaxKind → SyntaxError
refusal_of c (Token l p) kind = record { kind = kind; pos = p }
refusal_of c End kind = record { kind = Unclosed; pos = place_of c.file c.text (length c.text) }
refusal_of c (Fault x) kind = record { kind = Lex x.kind; pos = x.pos }

-- the levels behind what comes next, where it is taken
abbrev pub Deepens : Cutting → Begun → Seen → Result Taken SyntaxError → Type 0
Deepens c b (Token l p) (Ok (On new)) = (new ≡ record b { levels = take_class (class_of_lexeme l) b.levels }) × (depth_of new.levels ≤ MOST_LEVELS)
Deepens c b (Token l p) (Err e) = (e.kind ≡ Memory) ⊎ ((e ≡ record { kind = TooDeep; pos = p }) × (MOST_LEVELS < depth_of (take_class (class_of_lexeme l) b.levels)))
Deepens c b seen (Err e) = (e.kind ≡ Memory) ⊎ (e ≡ refusal_of c seen Unexpected)
Deepens c b seen o = ⊥

-- what becomes of what was read: more is; a directive is whole; or what comes next is refused
abbrev pub Turns : Cutting → Begun → Seen → Result Taken SyntaxError → Type 0
Turns c b seen (Ok (On new)) = TakesOn b seen new
Turns c b seen (Ok (Whole d)) = (us : List Value) × (outcome b seen ≡ over true us) × (directive_of d ≡ directive_in (v1 us))
Turns c b seen (Err e) = (e.kind ≡ Memory) ⊎ Refusal c b seen e

abbrev pub is_end : Seen → Bool
is_end End = true
is_end _ = false

abbrev pub reading_of : Cutting → Reading
reading_of c = record { text = c.text; file = c.file; progress = reached c.at }

abbrev pub ReadsTree : Cutting → List (List ℕ) → Result (Option DirectiveTree) SyntaxError → Cutting → List (List ℕ) → Type 0
ReadsTree old names (Ok None) new names' = (next_of old names ≡ the_end) × (names' ≡ names) × (new ≡ record old { at = length old.text })
ReadsTree old names (Ok (Some d)) new names' =
    (front : Front (reading_of old) names old.at)
    × IsWhole front.tokens front.next (directive_of d)
    × (names' ≡ names_past front.next front.known)
    × (new ≡ record old { at = front.to })
ReadsTree old names (Err e) new names' =
    (new.text ≡ old.text) × (new.file ≡ old.file)
    × (((e.kind ≡ Memory) × table.KeepsNames names names') ⊎ Refuses (reading_of old) names old.at e names')

abbrev pub NumbersTree : Cutting → List (List ℕ) → syntax.Nodes → Result (Option Directive) SyntaxError → Cutting → List (List ℕ) → syntax.Nodes → Type 0
NumbersTree old names s (Ok None) new names' s' = (next_of old names ≡ the_end) × (names' ≡ names) × (s' ≡ s) × (new ≡ record old { at = length old.text })
NumbersTree old names s (Ok (Some d)) new names' s' =
    (to : ℕ) × Finds (reading_of old) names old.at s' d to names' × syntax.KeepsNodes s s' × (new ≡ record old { at = to })
NumbersTree old names s (Err e) new names' s' =
    (new.text ≡ old.text) × (new.file ≡ old.file)
    × (Wants e names names' s s' ⊎ (Refuses (reading_of old) names old.at e names' × (s' ≡ s)))
