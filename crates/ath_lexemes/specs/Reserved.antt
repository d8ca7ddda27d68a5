-- The reserved words, and what each is.
use Rattle.std.specs.Prelude.{ℕ, List, [], ◌∷◌, codes}
use Rattle.ath_sorts.specs.declared.sorts.Sym.{Sym}
use Rattle.ath_grammar.specs.declared.class.WordClass.TheVariants.{Logical, Infix, Tilde, Back}
use Rattle.ath_grammar.specs.declared.class.Opener.TheVariants as O
use Rattle.ath_grammar.specs.declared.class.DirectiveWord.TheVariants as D
use Rattle.ath_grammar.specs.declared.class.Mark.TheVariants as M
use Rattle.ath_lexemes.specs.declared.reserved.Reserved.{Reserved}
use Rattle.ath_lexemes.specs.declared.reserved.Reserved.TheVariants.{Opener, Directive, Mark, Own, Means, Wild, SomeOf}

-- the names `not`, `and`, `if` and `iff`, by the numbers that a new table of names gives them
abbrev pub not_name : Sym
not_name = record { 0 = 10 }

abbrev pub and_name : Sym
and_name = record { 0 = 11 }

abbrev pub if_name : Sym
if_name = record { 0 = 13 }

abbrev pub iff_name : Sym
iff_name = record { 0 = 14 }

-- the operators `&`, `~`, `==>` and `<==>` are phrases of those names
abbrev pub reserved_words : List (List ℕ × Reserved)
reserved_words =
    (codes "lambda", Opener O.Lambda)
    ∷ (codes "method", Opener O.Method)
    ∷ (codes "let", Opener O.Let)
    ∷ (codes "dlet", Opener O.LetDeduction)
    ∷ (codes "letrec", Opener O.LetRec)
    ∷ (codes "match", Opener O.Match)
    ∷ (codes "dmatch", Opener O.MatchDeduction)
    ∷ (codes "by-induction", Opener O.Induct)
    ∷ (codes "datatype-cases", Opener O.Cases)
    ∷ (codes "check", Opener O.Check)
    ∷ (codes "try", Opener O.Try)
    ∷ (codes "dbegin", Opener O.Begin)
    ∷ (codes "assume", Opener O.Assume)
    ∷ (codes "suppose-absurd", Opener O.Absurd)
    ∷ (codes "conclude", Opener O.Conclude)
    ∷ (codes "pick-any", Opener O.PickAny)
    ∷ (codes "pick-witness", Opener O.PickWitness)
    ∷ (codes "domain", Directive D.Domain)
    ∷ (codes "datatype", Directive D.Datatype)
    ∷ (codes "declare", Directive D.Declare)
    ∷ (codes "define", Directive D.Define)
    ∷ (codes "assert", Directive D.Assert)
    ∷ (codes "assert*", Directive D.AssertClosed)
    ∷ (codes "load", Directive D.Load)
    ∷ (codes "module", Mark M.Other)
    ∷ (codes "open", Mark M.Other)
    ∷ (codes "left-assoc", Mark M.Other)
    ∷ (codes "right-assoc", Mark M.Other)
    ∷ (codes "else", Mark M.Else)
    ∷ (codes "_", Wild)
    ∷ (codes "list-of", Mark M.ListOf)
    ∷ (codes "some-var", SomeOf)
    ∷ (codes "some-term", SomeOf)
    ∷ (codes "some-sent", SomeOf)
    ∷ (codes "some-list", SomeOf)
    ∷ (codes "forall", Own Logical)
    ∷ (codes "exists", Own Logical)
    ∷ (codes "not", Own Logical)
    ∷ (codes "and", Own Logical)
    ∷ (codes "or", Own Logical)
    ∷ (codes "if", Own Logical)
    ∷ (codes "iff", Own Logical)
    ∷ (codes "=", Own Infix)
    ∷ (codes "=/=", Mark M.Unequal)
    ∷ (codes "&", Means Infix and_name)
    ∷ (codes "~", Means Tilde not_name)
    ∷ (codes "==>", Means Infix if_name)
    ∷ (codes "<==>", Means Infix iff_name)
    ∷ (codes "<==", Own Back)
    ∷ (codes "=>", Mark M.Arrow)
    ∷ (codes "->", Mark M.To)
    ∷ []
