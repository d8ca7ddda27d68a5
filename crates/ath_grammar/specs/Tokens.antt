-- Tokens with their places, and their classes.
use Rattle.std.specs.Prelude.{List, [], ◌∷◌}
use Rattle.ath_syntax.specs.declared.place.Pos.{Pos}
use Rattle.ath_grammar.specs.declared.class.Mark.TheVariants.{Other}
use Rattle.ath_grammar.specs.declared.class.Class.{Class}
use Rattle.ath_grammar.specs.declared.class.Class.TheVariants as C
use Rattle.ath_grammar.specs.declared.lexeme.Lexeme.{Lexeme}
use Rattle.ath_grammar.specs.declared.lexeme.Lexeme.TheVariants as L

pub data Placed : Type 0 where
  at : Pos → Lexeme → Placed

abbrev pub class_of_lexeme : Lexeme → Class
class_of_lexeme (L.Word w n) = C.Word w
class_of_lexeme (L.Wild n) = C.Wild
class_of_lexeme (L.SomeOf n) = C.SomeOf
class_of_lexeme (L.Variable n k) = C.Variable
class_of_lexeme (L.SortVariable n) = C.SortVariable
class_of_lexeme (L.Text s) = C.Text
class_of_lexeme (L.Opener o) = C.Opener o
class_of_lexeme (L.Directive d) = C.Directive d
class_of_lexeme (L.Mark m) = C.Mark m

abbrev pub class_of : Placed → Class
class_of (at p t) = class_of_lexeme t

-- the class of the next token; behind the last it is one that begins nothing
abbrev pub next_class : List Placed → Class
next_class [] = C.Mark Other
next_class (t ∷ ts) = class_of t
