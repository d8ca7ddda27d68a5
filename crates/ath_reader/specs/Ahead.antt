-- What comes next in a text, to the grammar, and the tokens from a byte on.
use Rattle.std.specs.Prelude.{◌≡◌, ℕ, List, [], ◌∷◌, Some, None}
use Rattle.ath_sorts.specs.declared.sorts.Sym.{Sym}
use Rattle.ath_grammar.specs.declared.lexeme.Lexeme as grammar
use Rattle.ath_grammar.specs.declared.lexeme.Lexeme.TheVariants.{Variable, SortVariable, Text, Mark}
use Rattle.ath_grammar.specs.declared.class.Mark.TheVariants.{Becomes}
use Rattle.ath_grammar.specs.Tokens.{Placed, at}
use Rattle.ath_names.specs.Names.{number_of}
use Rattle.ath_tokens.specs.declared.tokens.LexKind.{LexKind}
use Rattle.ath_tokens.specs.Cut.{found, ended, fault, next_of, place_of, names_with}
use Rattle.ath_tokens.specs.Spelling.{Lexeme, word, var, sort_var, str, punct, becomes}
use Rattle.ath_lexemes.specs.Lexemes.{word_lexeme, punct_lexeme}

-- the number of a name that is among the names
abbrev pub number_in : List (List ℕ) → List ℕ → Sym
number_in names text = record { 0 = elim (number_of names text) [ None ↦ 0 | Some n ↦ n ] }

-- a token to the grammar, its name by its number among the names
abbrev pub seen_as : List (List ℕ) → Lexeme → grammar.Lexeme
seen_as names (word text) = word_lexeme text (number_in names text)
seen_as names (var text index) = Variable (number_in names text) index
seen_as names (sort_var text) = SortVariable (number_in names text)
seen_as names (str bytes) = Text bytes
seen_as names (punct b) = punct_lexeme b
seen_as names becomes = Mark Becomes

pub data Ahead : Type 0 where
  -- a token, the names with its own among them, and the byte behind it
  a_token : Placed → List (List ℕ) → ℕ → Ahead
  -- the end of the text
  the_end : Ahead
  -- a lexical fault, and its byte
  a_fault : LexKind → ℕ → Ahead

-- what comes next from a byte on
abbrev pub ahead : ℕ → List ℕ → List (List ℕ) → ℕ → Ahead
ahead file text names from = elim (next_of text from) [
  | found l start end ↦ let known = names_with names l in a_token (at (place_of file text start) (seen_as known l)) known end
  | ended ↦ the_end
  | fault kind byte ↦ a_fault kind byte
]

-- these are the next tokens from a byte on, and the names and the byte behind them
pub data Reads (file : ℕ) (text : List ℕ) : List (List ℕ) → ℕ → List Placed → List (List ℕ) → ℕ → Type 0 where
  reads_none : {names : List (List ℕ)} {from : ℕ} → Reads file text names from [] names from
  reads_more : {names known last : List (List ℕ)} {from mid to : ℕ} {t : Placed} {ts : List Placed} → ahead file text names from ≡ a_token t known mid → Reads file text known mid ts last to → Reads file text names from (t ∷ ts) last to

-- the tokens that may stand behind a place with this ahead: what follows a token is free
pub data Follows : Ahead → List Placed → Type 0 where
  follows_token : {t : Placed} {names : List (List ℕ)} {to : ℕ} {more : List Placed} → Follows (a_token t names to) (t ∷ more)
  follows_end : Follows the_end []
  follows_fault : {kind : LexKind} {byte : ℕ} → Follows (a_fault kind byte) []

-- the names when what is ahead was looked at
abbrev pub names_past : Ahead → List (List ℕ) → List (List ℕ)
names_past (a_token t known to) names = known
names_past the_end names = names
names_past (a_fault kind byte) names = names
