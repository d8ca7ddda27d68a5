-- Classes by numbers, and whether a token is of a class.
use Rattle.std.specs.Prelude.{ℕ, Bool}
use Rattle.std.specs.Bool.{nat_eq}
use Rattle.ath_grammar.specs.declared.class.WordClass.{WordClass}
use Rattle.ath_grammar.specs.declared.class.WordClass.TheVariants as W
use Rattle.ath_grammar.specs.declared.class.Opener.{Opener}
use Rattle.ath_grammar.specs.declared.class.Opener.TheVariants as O
use Rattle.ath_grammar.specs.declared.class.DirectiveWord.{DirectiveWord}
use Rattle.ath_grammar.specs.declared.class.DirectiveWord.TheVariants as D
use Rattle.ath_grammar.specs.declared.class.Mark.{Mark}
use Rattle.ath_grammar.specs.declared.class.Mark.TheVariants as M
use Rattle.ath_grammar.specs.declared.class.Class.{Class}
use Rattle.ath_grammar.specs.declared.class.Class.TheVariants as C
use Rattle.ath_grammar.specs.Tokens.{Placed, class_of}

abbrev pub word_code : WordClass → ℕ
word_code W.Plain = 0
word_code W.Dotted = 1
word_code W.Logical = 2
word_code W.Infix = 3
word_code W.Tilde = 4
word_code W.Back = 5

abbrev pub opener_code : Opener → ℕ
opener_code O.Open = 11
opener_code O.OpenBracket = 12
opener_code O.OpenBrace = 13
opener_code O.Lambda = 14
opener_code O.Method = 15
opener_code O.Let = 16
opener_code O.LetDeduction = 17
opener_code O.LetRec = 18
opener_code O.Match = 19
opener_code O.MatchDeduction = 20
opener_code O.Induct = 21
opener_code O.Cases = 22
opener_code O.Check = 23
opener_code O.Try = 24
opener_code O.Begin = 25
opener_code O.Assume = 26
opener_code O.Absurd = 27
opener_code O.Conclude = 28
opener_code O.PickAny = 29
opener_code O.PickWitness = 30

abbrev pub directive_code : DirectiveWord → ℕ
directive_code D.Domain = 31
directive_code D.Datatype = 32
directive_code D.Declare = 33
directive_code D.Define = 34
directive_code D.Assert = 35
directive_code D.AssertClosed = 36
directive_code D.Load = 37

abbrev pub mark_code : Mark → ℕ
mark_code M.Close = 38
mark_code M.CloseBracket = 39
mark_code M.CloseBrace = 40
mark_code M.Bar = 41
mark_code M.Comma = 42
mark_code M.Semicolon = 43
mark_code M.Bang = 44
mark_code M.Colon = 45
mark_code M.Dot = 46
mark_code M.Becomes = 47
mark_code M.Arrow = 48
mark_code M.To = 49
mark_code M.Unequal = 50
mark_code M.Else = 51
mark_code M.ListOf = 52
mark_code M.Other = 53

abbrev pub code : Class → ℕ
code (C.Word w) = word_code w
code C.Wild = 6
code C.SomeOf = 7
code C.Variable = 8
code C.SortVariable = 9
code C.Text = 10
code (C.Opener o) = opener_code o
code (C.Directive d) = directive_code d
code (C.Mark m) = mark_code m

-- whether a token is of a class
abbrev pub is_class : Class → Placed → Bool
is_class c t = nat_eq (code c) (code (class_of t))
