-- What the reading of one token answers, for the contracts of its steps.
use Rattle.std.specs.Prelude.{◌≡◌, ℕ, ◌+◌, ◌<◌, ◌≤◌, min, Bool, true, false, not, ◌&&◌, ◌||◌, ◌==◌, List, [], ◌∷◌, length, take, drop, Option, Some, None, Result, Ok, Err, ◌⊎◌, if◌then◌else◌}
use Rattle.std.specs.Char.{is_ascii_digit}
use Rattle.std.specs.List.{prefix_len}
use Rattle.std.specs.Str.{IsAscii, is_utf8}
use Rattle.std.specs.Str.Lossy.{utf8_valid_len}
use Rattle.ath_sorts.specs.declared.sorts.Sym.{Sym}
use Rattle.ath_names.specs.declared.limits.TheConstants.{MOST_NAME_BYTES}
use Rattle.ath_names.specs.Names.{number_of, interned}
use Rattle.ath_tokens.specs.declared.limits.TheConstants.{MOST_INDEX_DIGITS}
use Rattle.ath_tokens.specs.declared.lexeme.Lexed.{Lexed}
use Rattle.ath_tokens.specs.declared.lexeme.Lexed.TheVariants.{Word, Var, SortVar, Str, Punct, Becomes, Fault}
use Rattle.ath_tokens.specs.declared.tokens.LexKind.{LexKind}
use Rattle.ath_tokens.specs.declared.tokens.LexKind.TheVariants.{NameTooLong, Memory}
use Rattle.ath_tokens.specs.declared.tokens.Token.{Token}
use Rattle.ath_tokens.specs.declared.tokens.LexError.{LexError}
use Rattle.ath_tokens.specs.declared.tokens.Step.{Step}
use Rattle.ath_tokens.specs.declared.mark.Mark.{Mark}
use Rattle.ath_tokens.specs.Mark.{IsMark}
use Rattle.ath_tokens.specs.Bytes.{is_word_char, is_at_part}
use Rattle.ath_tokens.specs.Spelling.{Lexeme, word, var, sort_var, str, punct, becomes}
use Rattle.ath_tokens.specs.Cut.{longest, Cut, found, ended, fault, fault_of, cut_at, next_of, place_of, names_with}
use Rattle.ath_tokens.specs.Next.{token_of}

-- the first byte at which a text isn't UTF-8
abbrev pub StopsBeingUtf8 : List ℕ → Option ℕ → Type 0
StopsBeingUtf8 bytes None = is_utf8 bytes ≡ true
StopsBeingUtf8 bytes (Some at) =
    (is_utf8 bytes ≡ false) × (at ≡ utf8_valid_len bytes) × (at < length bytes)

-- a word character, or a dot before a part
abbrev pub goes_on : List ℕ → Bool
goes_on [] = false
goes_on (b ∷ bs) = is_word_char b || (b == 46 && is_at_part bs)

-- how many bytes a word goes on after its first
abbrev pub word_more : List ℕ → ℕ
word_more [] = 0
word_more (b ∷ bs) = if goes_on (b ∷ bs) then 1 + word_more bs else 0

abbrev pub is_at_zero : List ℕ → Bool
is_at_zero [] = false
is_at_zero (b ∷ bs) = b == 48

-- how many digits of an index stand after a `%` at the front
abbrev pub index_digits : List ℕ → ℕ
index_digits [] = 0
index_digits (c ∷ ds) = if c == 37 && not (is_at_zero ds) then min MOST_INDEX_DIGITS (prefix_len is_ascii_digit ds) else 0

abbrev pub Faults : List ℕ → Lexed → Type 0
Faults rest (Fault kind at) = (at < length rest) × (fault_of rest ≡ (kind, at))
Faults rest _ = ⊥

-- the longest token of the rest, or the fault there
abbrev pub Lexes : List ℕ → Lexed → Type 0
Lexes rest (Word n) = (longest (length rest) rest ≡ Some (n, word (take n rest))) × IsAscii (take n rest) × (n ≤ length rest)
Lexes rest (Var name index n) = (longest (length rest) rest ≡ Some (n, var (take name (drop 1 rest)) index)) × IsAscii (take name (drop 1 rest)) × (name < n) × (n ≤ length rest)
Lexes rest (SortVar name) = (longest (length rest) rest ≡ Some (1 + name, sort_var (take name (drop 1 rest)))) × IsAscii (take name (drop 1 rest)) × (1 + name ≤ length rest)
Lexes rest (Str bytes n) = (longest (length rest) rest ≡ Some (n, str bytes)) × (n ≤ length rest)
Lexes rest (Punct b) = longest (length rest) rest ≡ Some (1, punct b)
Lexes rest Becomes = longest (length rest) rest ≡ Some (2, becomes)
Lexes rest (Fault kind at) = (longest (length rest) rest ≡ None) × Faults rest (Fault kind at)

-- the number of a name, which joins the names, or why it gets none
abbrev pub Numbers : List (List ℕ) → List ℕ → Result Sym (LexKind × ℕ) → List (List ℕ) → Type 0
Numbers old name (Ok s) new = (length name ≤ MOST_NAME_BYTES) × (new ≡ interned old name) × (number_of new name ≡ Some s.0)
Numbers old name (Err e) new = ((e.0 ≡ Memory) ⊎ ((e.0 ≡ NameTooLong) × (MOST_NAME_BYTES < length name))) × (e.1 ≡ 0) × (new ≡ old)

-- the token of the rest with its length, or the fault there
abbrev pub Tells : List (List ℕ) → List ℕ → Result (Token × ℕ) (LexKind × ℕ) → List (List ℕ) → Type 0
Tells old rest (Ok t) new = (t.1 ≤ length rest) × ((l : Lexeme) × ((at : ℕ) → cut_at at rest ≡ found l at (at + t.1)) × (new ≡ names_with old l) × (token_of new l ≡ Some t.0))
Tells old rest (Err e) new = (e.1 < length rest) × ((e.0 ≡ Memory) ⊎ ((at : ℕ) → cut_at at rest ≡ fault e.0 (at + e.1))) × (new ≡ old)

-- an error that a cut of the text has
abbrev pub IsLexFault : ℕ → List ℕ → Cut → LexError → Type 0
IsLexFault file text cut e = (n : ℕ) × (cut ≡ fault e.kind n) × (e.pos ≡ place_of file text n)

-- where the blanks and comments end, or the fault in them
abbrev pub Starts : ℕ → List ℕ → ℕ → Result Mark LexError → Type 0
Starts file text from (Ok start) = IsMark text start × (next_of text from ≡ cut_at start.at (drop start.at text))
Starts file text from (Err e) = IsLexFault file text (next_of text from) e

-- the token at a place and what follows it, or the fault there
abbrev pub Cuts : ℕ → List ℕ → ℕ → List (List ℕ) → Result Step LexError → List (List ℕ) → Type 0
Cuts file text at old (Ok step) new =
    IsMark text step.mark
    × ((l : Lexeme) × (cut_at at (drop at text) ≡ found l step.start step.mark.at) × (new ≡ names_with old l) × (token_of new l ≡ Some step.token))
    × (step.pos ≡ place_of file text step.start)
Cuts file text at old (Err e) new = ((e.kind ≡ Memory) ⊎ IsLexFault file text (cut_at at (drop at text)) e) × (new ≡ old)

-- the next token and what follows it, the end, or the fault
abbrev pub Advances : ℕ → List ℕ → ℕ → List (List ℕ) → Result (Option Step) LexError → List (List ℕ) → Type 0
Advances file text from old (Ok (Some step)) new =
    IsMark text step.mark
    × ((l : Lexeme) × (next_of text from ≡ found l step.start step.mark.at) × (new ≡ names_with old l) × (token_of new l ≡ Some step.token))
    × (step.pos ≡ place_of file text step.start)
Advances file text from old (Ok None) new = (next_of text from ≡ ended) × (new ≡ old)
Advances file text from old (Err e) new = ((e.kind ≡ Memory) ⊎ IsLexFault file text (next_of text from) e) × (new ≡ old)
