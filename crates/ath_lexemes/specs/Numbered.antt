-- What a token is to the grammar, where its name is a number in the table of names.
use Rattle.std.specs.Prelude.{ℕ, ◌<◌, List, [], length, slice_index_or}
use Rattle.ath_sorts.specs.declared.sorts.Sym.{Sym}
use Rattle.ath_grammar.specs.declared.class.Mark.TheVariants as M
use Rattle.ath_grammar.specs.declared.lexeme.Lexeme.{Lexeme}
use Rattle.ath_grammar.specs.declared.lexeme.Lexeme.TheVariants.{Variable, SortVariable, Text, Mark}
use Rattle.ath_tokens.specs.declared.tokens.Token.{Token}
use Rattle.ath_tokens.specs.declared.tokens.Token.TheVariants.{Word as WordToken, Var as VarToken, SortVar as SortVarToken, Str as StrToken, Punct, Becomes as BecomesToken}
use Rattle.ath_lexemes.specs.Lexemes.{word_lexeme, punct_lexeme}

-- the text of a name
abbrev pub text_of : List (List ℕ) → Sym → List ℕ
text_of names n = slice_index_or names n.0 []

-- a word's number is one of the table
abbrev pub IsNumbered : List (List ℕ) → Token → Type 0
IsNumbered names (WordToken n) = n.0 < length names
IsNumbered names t = Unit {0}

abbrev pub lexeme_of : List (List ℕ) → Token → Lexeme
lexeme_of names (WordToken n) = word_lexeme (text_of names n) n
lexeme_of names (VarToken n index) = Variable n index
lexeme_of names (SortVarToken n) = SortVariable n
lexeme_of names (StrToken bytes) = Text bytes
lexeme_of names (Punct b) = punct_lexeme b
lexeme_of names BecomesToken = Mark M.Becomes
