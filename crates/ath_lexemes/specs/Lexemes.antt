-- What tokens are to the grammar. Words are told apart by their texts, those of the table of names.
use Rattle.std.specs.Prelude.{ℕ, ◌==◌, List, Option, Some, None, if◌then◌else◌}
use Rattle.std.specs.List.{list_any}
use Rattle.std.specs.Map.{lookup}
use Rattle.std.specs.Str.{bytes_eq}
use Rattle.ath_sorts.specs.declared.sorts.Sym.{Sym}
use Rattle.ath_grammar.specs.declared.class.WordClass.TheVariants.{Plain, Dotted}
use Rattle.ath_grammar.specs.declared.class.Opener.TheVariants as O
use Rattle.ath_grammar.specs.declared.class.Mark.TheVariants as M
use Rattle.ath_grammar.specs.declared.lexeme.Lexeme.{Lexeme}
use Rattle.ath_grammar.specs.declared.lexeme.Lexeme.TheVariants.{Word, Wild, SomeOf, Opener, Directive, Mark}
use Rattle.ath_lexemes.specs.declared.reserved.Reserved.{Reserved}
use Rattle.ath_lexemes.specs.declared.reserved.Reserved.TheVariants.{Opener as OpenerWord, Directive as DirectiveWord, Mark as MarkWord, Own, Means, Wild as WildWord, SomeOf as SomeWord}
use Rattle.ath_lexemes.specs.Reserved.{reserved_words}

-- a reserved word of this name
abbrev pub meant : Sym → Reserved → Lexeme
meant n (OpenerWord o) = Opener o
meant n (DirectiveWord d) = Directive d
meant n (MarkWord m) = Mark m
meant n (Own c) = Word c n
meant n (Means c m) = Word c m
meant n WildWord = Wild n
meant n SomeWord = SomeOf n

-- a word that isn't reserved is a name, with dots or without
abbrev pub plain_lexeme : List ℕ → Sym → Lexeme
plain_lexeme text n = if list_any (λ b. b == 46) text then Word Dotted n else Word Plain n

abbrev pub reserved_or_plain : List ℕ → Sym → Option Reserved → Lexeme
reserved_or_plain text n None = plain_lexeme text n
reserved_or_plain text n (Some r) = meant n r

abbrev pub word_lexeme : List ℕ → Sym → Lexeme
word_lexeme text n = reserved_or_plain text n (lookup (bytes_eq text) reserved_words)

-- a bracket or another mark, by its byte
abbrev pub punct_lexeme : ℕ → Lexeme
punct_lexeme b =
    if b == 40 then Opener O.Open
    else if b == 41 then Mark M.Close
    else if b == 91 then Opener O.OpenBracket
    else if b == 93 then Mark M.CloseBracket
    else if b == 123 then Opener O.OpenBrace
    else if b == 125 then Mark M.CloseBrace
    else if b == 124 then Mark M.Bar
    else if b == 44 then Mark M.Comma
    else if b == 59 then Mark M.Semicolon
    else if b == 33 then Mark M.Bang
    else if b == 58 then Mark M.Colon
    else Mark M.Dot
