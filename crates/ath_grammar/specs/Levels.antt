-- The levels that are open behind some tokens: one for each bracket, and for each form without its own pair of parentheses
-- up to its end. They are told from the tokens alone, where a directive begins with them.
use Rattle.std.specs.Prelude.{ℕ, zero, suc, ◌+◌, List, [], ◌∷◌}
use Rattle.ath_grammar.specs.declared.class.WordClass.TheVariants.{Plain}
use Rattle.ath_grammar.specs.declared.class.Opener.{Opener}
use Rattle.ath_grammar.specs.declared.class.Opener.TheVariants as O
use Rattle.ath_grammar.specs.declared.class.Mark.{Mark}
use Rattle.ath_grammar.specs.declared.class.Mark.TheVariants as M
use Rattle.ath_grammar.specs.declared.class.Class.{Class}
use Rattle.ath_grammar.specs.declared.class.Class.TheVariants as C
use Rattle.ath_grammar.specs.declared.levels.Open.{Open}
use Rattle.ath_grammar.specs.declared.levels.Open.TheVariants.{Bracket, Fresh, Branches, Awaits, Names, Sort, Variable}
use Rattle.ath_grammar.specs.Tokens.{Placed, class_of}

-- what is open, the innermost first: how many levels each is, and all are
abbrev pub level : Open → ℕ
level Sort = 0
level Variable = 0
level _ = 1

abbrev pub depth_of : List Open → ℕ
depth_of [] = 0
depth_of (o ∷ os) = level o + depth_of os

-- a form without its own pair, behind its keyword
abbrev pub begun : Opener → Open
begun O.Check = Awaits 0
begun O.Try = Awaits 0
begun O.PickAny = Names
begun O.PickWitness = Awaits 2
begun _ = Awaits 1

-- the `(` of a form with its own pair
abbrev pub paired : Opener → Open
paired O.Check = Branches
paired _ = Bracket

-- a part is whole, and with it each form whose last part it is
abbrev pub closed : List Open → List Open
closed (Sort ∷ os) = os
closed (Awaits zero ∷ os) = closed os
closed (Awaits (suc n) ∷ os) = Awaits n ∷ os
closed os = os

abbrev pub without_first : List Open → List Open
without_first [] = []
without_first (o ∷ os) = os

-- a `(`: that of a clause of `check` is no form's
abbrev pub round : List Open → Open
round (Branches ∷ os) = Bracket
round os = Fresh

-- behind `:=`, what stood before was a name
abbrev pub named : List Open → List Open
named (Awaits zero ∷ os) = Awaits 1 ∷ os
named os = os

-- an opening bracket, or the keyword of a form
abbrev pub opened : Opener → List Open → List Open
opened O.Open os = round os ∷ os
opened O.OpenBracket os = Bracket ∷ os
opened O.OpenBrace os = Bracket ∷ os
opened o os = begun o ∷ os

abbrev pub marked : Mark → List Open → List Open
marked M.Close os = closed (without_first os)
marked M.CloseBracket os = closed (without_first os)
marked M.CloseBrace os = closed (without_first os)
marked M.Becomes os = named os
marked _ os = os

-- a token, where nothing special stands before it
abbrev pub plainly : Class → List Open → List Open
plainly (C.Opener o) os = opened o os
plainly (C.Mark m) os = marked m os
plainly (C.Directive d) os = os
plainly C.SomeOf os = os
plainly C.Variable os = Variable ∷ os
plainly _ os = closed os

-- behind a `(`
abbrev pub in_fresh : Class → List Open → List Open
in_fresh (C.Opener O.Open) os = Fresh ∷ Bracket ∷ os
in_fresh (C.Opener O.OpenBracket) os = Bracket ∷ Bracket ∷ os
in_fresh (C.Opener O.OpenBrace) os = Bracket ∷ Bracket ∷ os
in_fresh (C.Opener o) os = paired o ∷ os
in_fresh c os = plainly c (Bracket ∷ os)

-- behind a variable
abbrev pub in_variable : Class → List Open → List Open
in_variable (C.Mark M.Colon) os = os
in_variable c os = plainly c (closed os)

-- behind `pick-any` or one of its names
abbrev pub in_names : Class → List Open → List Open
in_names (C.Word Plain) os = Names ∷ os
in_names (C.Mark M.Colon) os = Sort ∷ Names ∷ os
in_names c os = plainly c (Awaits 0 ∷ os)

abbrev pub take_class : Class → List Open → List Open
take_class c (Fresh ∷ os) = in_fresh c os
take_class c (Variable ∷ os) = in_variable c os
take_class c (Names ∷ os) = in_names c os
take_class c os = plainly c os

abbrev pub take_all : List Open → List Placed → List Open
take_all os [] = os
take_all os (t ∷ ts) = take_all (take_class (class_of t) os) ts

-- how many levels are open behind these tokens
abbrev pub depth : List Placed → ℕ
depth ts = depth_of (take_all [] ts)
