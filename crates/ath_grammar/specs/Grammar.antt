-- The grammar: a row for each symbol and class of the next token. E is an expression, D a deduction, F either; x is a name,
-- S a sort, P a pattern, L a `lambda` or `method` form. A form whose keyword stands behind a bracket has its own pair.
use Rattle.std.specs.Prelude.{List, [], ◌∷◌, true, false}
use Rattle.ath_grammar.specs.declared.class.WordClass.TheVariants.{Plain, Dotted, Logical, Infix, Tilde}
use Rattle.ath_grammar.specs.declared.class.Opener.{Opener}
use Rattle.ath_grammar.specs.declared.class.Opener.TheVariants as O
use Rattle.ath_grammar.specs.declared.class.DirectiveWord.TheVariants as D
use Rattle.ath_grammar.specs.declared.class.Mark.{Mark}
use Rattle.ath_grammar.specs.declared.class.Mark.TheVariants as M
use Rattle.ath_grammar.specs.declared.class.Class.{Class}
use Rattle.ath_grammar.specs.declared.class.Class.TheVariants as C
use Rattle.ath_grammar.specs.declared.symbol.Symbol.{Symbol}
use Rattle.ath_grammar.specs.declared.symbol.Symbol.TheVariants as S
use Rattle.ath_grammar.specs.declared.action.Action.{Action}
use Rattle.ath_grammar.specs.declared.action.Action.TheVariants as A
use Rattle.ath_grammar.specs.declared.action.Guard.TheVariants.{Free, New}
use Rattle.ath_grammar.specs.declared.item.Want.TheVariants.{Any, Only}
use Rattle.ath_grammar.specs.declared.item.Rule.TheVariants.{Same, AsTop, Bound, After}
use Rattle.ath_grammar.specs.declared.item.Attr.TheVariants.{Is, Given}
use Rattle.ath_grammar.specs.declared.item.Item.{Item}
use Rattle.ath_grammar.specs.declared.item.Item.TheVariants as I
use Rattle.ath_grammar.specs.Tables.{Row, none, take, skip, begin_as}

-- tokens that have to come next
abbrev mark : Mark → Item
mark m = I.Token (C.Mark m)

abbrev opener : Opener → Item
opener o = I.Token (C.Opener o)

abbrev name : Item
name = I.Token (C.Word Plain)

-- what is made of what was read
abbrev act : Action → Item
act x = I.Act x

-- a symbol: a phrase of any kind or what is no phrase, an expression, a deduction, what is wanted here, what the phrase
-- that was read last is, what a `let` binds, and what it may be behind that
abbrev any : Symbol → Item
any s = I.Symbol s (Is Any)

abbrev expression : Symbol → Item
expression s = I.Symbol s (Is (Only false))

abbrev deduction : Symbol → Item
deduction s = I.Symbol s (Is (Only true))

abbrev same : Symbol → Item
same s = I.Symbol s (Given Same Any)

abbrev alike : Symbol → Item
alike s = I.Symbol s (Given AsTop Any)

abbrev bound : Symbol → Item
bound s = I.Symbol s (Given Bound Any)

abbrev after : Symbol → Item
after s = I.Symbol s (Given After Any)

-- the token and then these: of a phrase of any kind or what is no phrase, of an expression, of a deduction
abbrev by : List Item → Row
by is = take Any Free is

abbrev by_expression : List Item → Row
by_expression is = take (Only false) Free is

abbrev by_deduction : List Item → Row
by_deduction is = take (Only true) Free is

-- where a name differs from those before it
abbrev by_new : List Item → Row
by_new is = take Any New is

-- as this symbol begins, and then these
abbrev as_any : Symbol → List Item → Row
as_any s is = begin_as Any s (Is Any) is

abbrev as_expression : Symbol → List Item → Row
as_expression s is = begin_as Any s (Is (Only false)) is

abbrev as_same : Symbol → List Item → Row
as_same s is = begin_as Any s (Given Same Any) is

-- the last name of a `pick-any` as its body
abbrev last_name : Row
last_name = skip (Only false) (A.Name ∷ A.PickAny ∷ [])

abbrev pub grammar : Symbol → Class → Row
-- x, M.x, and the reserved words that are phrases
grammar S.Phrase (C.Word w) = by_expression (act A.Name ∷ [])
-- ?x, ?x:S
grammar S.Phrase C.Variable = by_expression (any S.VariableSort ∷ [])
grammar S.VariableSort (C.Mark M.Colon) = by (any S.Sort ∷ act A.SortedVariable ∷ [])
grammar S.VariableSort _ = skip Any (A.Variable ∷ [])
-- "text"
grammar S.Phrase C.Text = by_expression (act A.String ∷ [])
-- [E ..]
grammar S.Phrase (C.Opener O.OpenBracket) = by_expression (act A.NoPhrases ∷ any S.SquareParts ∷ act A.List ∷ [])
grammar S.SquareParts (C.Mark M.CloseBracket) = by []
grammar S.SquareParts _ = as_expression S.Phrase (act A.AddPhrase ∷ any S.SquareParts ∷ [])
-- what stands in parentheses
grammar S.Phrase (C.Opener O.Open) = by (same S.Inside ∷ [])
-- (x), (x : S) and (x E ..), where x is an operator; `~` would be infix
grammar S.Inside (C.Word Tilde) = none
grammar S.Inside (C.Word Infix) = by_expression (act A.Name ∷ any S.AfterOperator ∷ [])
grammar S.AfterOperator (C.Mark M.Close) = by (act A.NoPhrases ∷ act A.Apply ∷ [])
grammar S.AfterOperator (C.Mark M.Colon) = by (any S.Sort ∷ mark M.Close ∷ act A.Ascribe ∷ [])
grammar S.AfterOperator _ = as_expression S.Phrase (act A.OnePhrase ∷ expression S.Parts ∷ act A.Apply ∷ [])
-- (x), (x : S) and (x E ..), where x is another word; an operator behind it would be infix
grammar S.Inside (C.Word w) = by_expression (act A.Name ∷ any S.AfterWord ∷ [])
grammar S.AfterWord (C.Word Infix) = none
grammar S.AfterWord (C.Word Tilde) = none
grammar S.AfterWord _ = as_any S.AfterOperator []
-- (F), (E : S) and (E E ..), where the first is no word
grammar S.AfterFirst (C.Mark M.Close) = by (act A.Unwrap ∷ [])
grammar S.AfterFirst (C.Mark M.Colon) = by_expression (any S.Sort ∷ mark M.Close ∷ act A.Ascribe ∷ [])
grammar S.AfterFirst (C.Word Infix) = none
grammar S.AfterFirst (C.Word Tilde) = none
grammar S.AfterFirst _ = begin_as (Only false) S.Phrase (Is (Only false)) (act A.OnePhrase ∷ expression S.Parts ∷ act A.Apply ∷ [])
-- further phrases and the bracket
grammar S.Parts (C.Mark M.Close) = by []
grammar S.Parts _ = as_same S.Phrase (act A.AddPhrase ∷ same S.Parts ∷ [])
-- (!E F ..)
grammar S.Inside (C.Mark M.Bang) = by_deduction (expression S.Phrase ∷ act A.NoPhrases ∷ any S.Parts ∷ act A.Call ∷ [])
-- lambda (x ..) E
grammar S.Phrase (C.Opener O.Lambda) = by_expression (any S.Lambda ∷ [])
grammar S.Inside (C.Opener O.Lambda) = by_expression (act A.Drop ∷ any S.Lambda ∷ mark M.Close ∷ [])
grammar S.Lambda (C.Opener O.Open) = by (act A.Drop ∷ act A.NoNames ∷ any S.Parameters ∷ expression S.Phrase ∷ act A.Lambda ∷ [])
-- method (x ..) D
grammar S.Phrase (C.Opener O.Method) = by_expression (any S.Method ∷ [])
grammar S.Inside (C.Opener O.Method) = by_expression (act A.Drop ∷ any S.Method ∷ mark M.Close ∷ [])
grammar S.Method (C.Opener O.Open) = by (act A.Drop ∷ act A.NoNames ∷ any S.Parameters ∷ deduction S.Phrase ∷ act A.Method ∷ [])
-- parameters and the bracket; they differ, but `_` may stand for any
grammar S.Parameters (C.Mark M.Close) = by []
grammar S.Parameters C.Wild = by (act A.AddName ∷ any S.Parameters ∷ [])
grammar S.Parameters (C.Word Plain) = by_new (act A.AddName ∷ any S.Parameters ∷ [])
-- let ((x F) ..) F, let { x := F ; .. } F, and `dlet`, which is a deduction
grammar S.Phrase (C.Opener O.Let) = by (same S.Let ∷ [])
grammar S.Inside (C.Opener O.Let) = by (act A.Drop ∷ same S.Let ∷ mark M.Close ∷ [])
grammar S.Phrase (C.Opener O.LetDeduction) = by_deduction (deduction S.Let ∷ [])
grammar S.Inside (C.Opener O.LetDeduction) = by_deduction (act A.Drop ∷ deduction S.Let ∷ mark M.Close ∷ [])
grammar S.Let (C.Opener O.Open) = by (act A.Drop ∷ act A.NoBindings ∷ opener O.Open ∷ act A.Drop ∷ name ∷ bound S.Phrase ∷ mark M.Close ∷ act A.AddBinding ∷ after S.LetPairs ∷ [])
grammar S.LetPairs (C.Opener O.Open) = by (act A.Drop ∷ name ∷ bound S.Phrase ∷ mark M.Close ∷ act A.AddBinding ∷ after S.LetPairs ∷ [])
grammar S.LetPairs (C.Mark M.Close) = by (same S.Phrase ∷ act A.Let ∷ [])
grammar S.Let (C.Opener O.OpenBrace) = by (act A.Drop ∷ act A.NoBindings ∷ name ∷ mark M.Becomes ∷ bound S.Phrase ∷ act A.AddBinding ∷ after S.LetRows ∷ [])
grammar S.LetRows (C.Mark M.Semicolon) = by (name ∷ mark M.Becomes ∷ bound S.Phrase ∷ act A.AddBinding ∷ after S.LetRows ∷ [])
grammar S.LetRows (C.Mark M.CloseBrace) = by (same S.Phrase ∷ act A.Let ∷ [])
-- letrec ((x L) ..) F, letrec { x := L ; .. } F; the names differ
grammar S.Phrase (C.Opener O.LetRec) = by (same S.LetRec ∷ [])
grammar S.Inside (C.Opener O.LetRec) = by (act A.Drop ∷ same S.LetRec ∷ mark M.Close ∷ [])
grammar S.LetRec (C.Opener O.Open) = by (act A.Drop ∷ act A.NoBindings ∷ opener O.Open ∷ act A.Drop ∷ same S.LetRecPair ∷ [])
grammar S.LetRecPair (C.Word Plain) = by_new (any S.Closure ∷ mark M.Close ∷ act A.AddBinding ∷ same S.LetRecPairs ∷ [])
grammar S.LetRecPairs (C.Opener O.Open) = by (act A.Drop ∷ same S.LetRecPair ∷ [])
grammar S.LetRecPairs (C.Mark M.Close) = by (same S.Phrase ∷ act A.LetRec ∷ [])
grammar S.LetRec (C.Opener O.OpenBrace) = by (act A.Drop ∷ act A.NoBindings ∷ same S.LetRecRow ∷ [])
grammar S.LetRecRow (C.Word Plain) = by_new (mark M.Becomes ∷ any S.Closure ∷ act A.AddBinding ∷ same S.LetRecRows ∷ [])
grammar S.LetRecRows (C.Mark M.Semicolon) = by (same S.LetRecRow ∷ [])
grammar S.LetRecRows (C.Mark M.CloseBrace) = by (same S.Phrase ∷ act A.LetRec ∷ [])
-- L, in any number of parentheses
grammar S.Closure (C.Opener O.Lambda) = by (any S.Lambda ∷ [])
grammar S.Closure (C.Opener O.Method) = by (any S.Method ∷ [])
grammar S.Closure (C.Opener O.Open) = by (any S.ClosureInside ∷ [])
grammar S.ClosureInside (C.Opener O.Lambda) = by (act A.Drop ∷ any S.Lambda ∷ mark M.Close ∷ [])
grammar S.ClosureInside (C.Opener O.Method) = by (act A.Drop ∷ any S.Method ∷ mark M.Close ∷ [])
grammar S.ClosureInside (C.Opener O.Open) = by (any S.ClosureInside ∷ mark M.Close ∷ act A.Unwrap ∷ [])
-- (match E (P F) ..), match E { P => F | .. }, and `dmatch`, which is a deduction
grammar S.Phrase (C.Opener O.Match) = by (expression S.Phrase ∷ same S.Clauses ∷ act A.Match ∷ [])
grammar S.Inside (C.Opener O.Match) = by (act A.Drop ∷ expression S.Phrase ∷ same S.ClausesInside ∷ act A.Match ∷ [])
grammar S.Phrase (C.Opener O.MatchDeduction) = by_deduction (expression S.Phrase ∷ deduction S.Clauses ∷ act A.Match ∷ [])
grammar S.Inside (C.Opener O.MatchDeduction) = by_deduction (act A.Drop ∷ expression S.Phrase ∷ deduction S.ClausesInside ∷ act A.Match ∷ [])
-- clauses in braces, and in their own pairs; all are of the kind of the first
grammar S.Clauses (C.Opener O.OpenBrace) = by (act A.Drop ∷ act A.NoClauses ∷ any S.Pattern ∷ mark M.Arrow ∷ same S.Phrase ∷ act A.AddClause ∷ alike S.ClauseRows ∷ [])
grammar S.ClauseRows (C.Mark M.Bar) = by (any S.Pattern ∷ mark M.Arrow ∷ same S.Phrase ∷ act A.AddClause ∷ same S.ClauseRows ∷ [])
grammar S.ClauseRows (C.Mark M.CloseBrace) = by []
grammar S.ClausesInside (C.Opener O.OpenBrace) = by (act A.Drop ∷ act A.NoClauses ∷ any S.Pattern ∷ mark M.Arrow ∷ same S.Phrase ∷ act A.AddClause ∷ alike S.ClauseRows ∷ mark M.Close ∷ [])
grammar S.ClausesInside (C.Opener O.Open) = by (act A.Drop ∷ act A.NoClauses ∷ any S.Pattern ∷ same S.Phrase ∷ mark M.Close ∷ act A.AddClause ∷ alike S.ClausePairs ∷ [])
grammar S.ClausePairs (C.Opener O.Open) = by (act A.Drop ∷ any S.Pattern ∷ same S.Phrase ∷ mark M.Close ∷ act A.AddClause ∷ same S.ClausePairs ∷ [])
grammar S.ClausePairs (C.Mark M.Close) = by []
-- (check (E F) .. (else F)), check { E => F | .. | else => F }
grammar S.Phrase (C.Opener O.Check) = by (same S.Check ∷ [])
grammar S.Inside (C.Opener O.Check) = by (act A.Drop ∷ same S.CheckInside ∷ [])
grammar S.Check (C.Opener O.OpenBrace) = by (act A.Drop ∷ act A.NoBranches ∷ expression S.Phrase ∷ mark M.Arrow ∷ same S.Phrase ∷ act A.AddBranch ∷ alike S.BranchRows ∷ [])
grammar S.BranchRows (C.Mark M.Bar) = by (same S.BranchRow ∷ [])
grammar S.BranchRows (C.Mark M.CloseBrace) = by (act A.Check ∷ [])
grammar S.BranchRow (C.Mark M.Else) = by (mark M.Arrow ∷ same S.Phrase ∷ mark M.CloseBrace ∷ act A.CheckElse ∷ [])
grammar S.BranchRow _ = as_expression S.Phrase (mark M.Arrow ∷ same S.Phrase ∷ act A.AddBranch ∷ same S.BranchRows ∷ [])
grammar S.CheckInside (C.Opener O.OpenBrace) = by (act A.Drop ∷ act A.NoBranches ∷ expression S.Phrase ∷ mark M.Arrow ∷ same S.Phrase ∷ act A.AddBranch ∷ alike S.BranchRows ∷ mark M.Close ∷ [])
grammar S.CheckInside (C.Opener O.Open) = by (act A.Drop ∷ act A.NoBranches ∷ expression S.Phrase ∷ same S.Phrase ∷ mark M.Close ∷ act A.AddBranch ∷ alike S.BranchPairs ∷ [])
grammar S.BranchPairs (C.Opener O.Open) = by (act A.Drop ∷ same S.BranchInside ∷ [])
grammar S.BranchPairs (C.Mark M.Close) = by (act A.Check ∷ [])
grammar S.BranchInside (C.Mark M.Else) = by (same S.Phrase ∷ mark M.Close ∷ mark M.Close ∷ act A.CheckElse ∷ [])
grammar S.BranchInside _ = as_expression S.Phrase (same S.Phrase ∷ mark M.Close ∷ act A.AddBranch ∷ same S.BranchPairs ∷ [])
-- (try F ..), try { F | .. }; all are of the kind of the first, and a `{` always begins the second spelling
grammar S.Phrase (C.Opener O.Try) = by (same S.Try ∷ [])
grammar S.Inside (C.Opener O.Try) = by (act A.Drop ∷ same S.TryInside ∷ act A.Try ∷ [])
grammar S.Try (C.Opener O.OpenBrace) = by (act A.Drop ∷ same S.Phrase ∷ act A.OnePhrase ∷ alike S.Alternatives ∷ act A.Try ∷ [])
grammar S.TryInside (C.Opener O.OpenBrace) = by (act A.Drop ∷ same S.Phrase ∷ act A.OnePhrase ∷ alike S.Alternatives ∷ mark M.Close ∷ [])
grammar S.TryInside _ = as_same S.Phrase (act A.OnePhrase ∷ alike S.Parts ∷ [])
grammar S.Alternatives (C.Mark M.Bar) = by (same S.Phrase ∷ act A.AddPhrase ∷ same S.Alternatives ∷ [])
grammar S.Alternatives (C.Mark M.CloseBrace) = by []
-- (dbegin D ..)
grammar S.Inside (C.Opener O.Begin) = by_deduction (act A.Drop ∷ deduction S.Phrase ∷ act A.OnePhrase ∷ deduction S.Parts ∷ act A.Sequence ∷ [])
-- { D ; .. }
grammar S.Phrase (C.Opener O.OpenBrace) = by_deduction (deduction S.Phrase ∷ act A.OnePhrase ∷ any S.Sequence ∷ act A.Sequence ∷ [])
grammar S.Sequence (C.Mark M.Semicolon) = by (deduction S.Phrase ∷ act A.AddPhrase ∷ any S.Sequence ∷ [])
grammar S.Sequence (C.Mark M.CloseBrace) = by []
-- assume E D, assume x := E D
grammar S.Phrase (C.Opener O.Assume) = by_deduction (any S.Hypothesis ∷ deduction S.Phrase ∷ act A.Assume ∷ [])
grammar S.Inside (C.Opener O.Assume) = by_deduction (act A.Drop ∷ any S.Hypothesis ∷ deduction S.Phrase ∷ act A.Assume ∷ mark M.Close ∷ [])
-- E, x := E
grammar S.Hypothesis (C.Word Plain) = by (any S.HypothesisName ∷ [])
grammar S.Hypothesis _ = as_expression S.Phrase (act A.Unnamed ∷ [])
grammar S.HypothesisName (C.Mark M.Becomes) = by (act A.Named ∷ expression S.Phrase ∷ [])
grammar S.HypothesisName _ = skip Any (A.Name ∷ A.Unnamed ∷ [])
-- suppose-absurd E D, suppose-absurd x := E D
grammar S.Phrase (C.Opener O.Absurd) = by_deduction (any S.Hypothesis ∷ deduction S.Phrase ∷ act A.Absurd ∷ [])
grammar S.Inside (C.Opener O.Absurd) = by_deduction (act A.Drop ∷ any S.Hypothesis ∷ deduction S.Phrase ∷ act A.Absurd ∷ mark M.Close ∷ [])
-- pick-any x y:S .. D
grammar S.Phrase (C.Opener O.PickAny) = by_deduction (act A.NoBinders ∷ deduction S.FirstBinder ∷ [])
grammar S.Inside (C.Opener O.PickAny) = by_deduction (act A.Drop ∷ act A.NoBinders ∷ deduction S.FirstBinder ∷ mark M.Close ∷ [])
grammar S.FirstBinder (C.Word Plain) = by (same S.AfterFirstBinder ∷ [])
grammar S.AfterFirstBinder (C.Word Plain) = by (act A.AddBinder ∷ same S.AfterBinder ∷ [])
grammar S.AfterFirstBinder (C.Mark M.Colon) = by (any S.Sort ∷ act A.AddSortedBinder ∷ same S.Binders ∷ [])
grammar S.AfterFirstBinder _ = as_same S.Phrase (act A.AddBinder ∷ act A.PickAny ∷ [])
grammar S.Binders (C.Word Plain) = by (same S.AfterBinder ∷ [])
grammar S.Binders _ = as_same S.Phrase (act A.PickAny ∷ [])
grammar S.AfterBinder (C.Word Plain) = by (act A.AddBinder ∷ same S.AfterBinder ∷ [])
grammar S.AfterBinder (C.Mark M.Colon) = by (any S.Sort ∷ act A.AddSortedBinder ∷ same S.Binders ∷ [])
-- behind a name that neither a name nor a body follows
grammar S.AfterBinder (C.Mark m) = last_name
grammar S.AfterBinder C.Wild = last_name
grammar S.AfterBinder C.SomeOf = last_name
grammar S.AfterBinder C.SortVariable = last_name
grammar S.AfterBinder (C.Directive d) = last_name
grammar S.AfterBinder (C.Opener O.Begin) = last_name
grammar S.AfterBinder _ = as_same S.Phrase (act A.AddBinder ∷ act A.PickAny ∷ [])
-- pick-witness x F D
grammar S.Phrase (C.Opener O.PickWitness) = by_deduction (name ∷ any S.Phrase ∷ deduction S.Phrase ∷ act A.PickWitness ∷ [])
grammar S.Inside (C.Opener O.PickWitness) = by_deduction (act A.Drop ∷ name ∷ any S.Phrase ∷ deduction S.Phrase ∷ act A.PickWitness ∷ mark M.Close ∷ [])
-- (by-induction E (P D) ..), by-induction E { P => D | .. }
grammar S.Phrase (C.Opener O.Induct) = by_deduction (expression S.Phrase ∷ deduction S.Clauses ∷ act A.Induct ∷ [])
grammar S.Inside (C.Opener O.Induct) = by_deduction (act A.Drop ∷ expression S.Phrase ∷ deduction S.ClausesInside ∷ act A.Induct ∷ [])
-- (datatype-cases E (P D) ..), datatype-cases E { P => D | .. }
grammar S.Phrase (C.Opener O.Cases) = by_deduction (expression S.Phrase ∷ deduction S.Clauses ∷ act A.Cases ∷ [])
grammar S.Inside (C.Opener O.Cases) = by_deduction (act A.Drop ∷ expression S.Phrase ∷ deduction S.ClausesInside ∷ act A.Cases ∷ [])
-- conclude E D, conclude x := E D
grammar S.Phrase (C.Opener O.Conclude) = by_deduction (any S.Hypothesis ∷ deduction S.Phrase ∷ act A.Conclude ∷ [])
grammar S.Inside (C.Opener O.Conclude) = by_deduction (act A.Drop ∷ any S.Hypothesis ∷ deduction S.Phrase ∷ act A.Conclude ∷ mark M.Close ∷ [])
-- in parentheses, what begins with no word, sign or keyword
grammar S.Inside _ = as_same S.Phrase (alike S.AfterFirst ∷ [])
-- sorts: N, 'S, (N S ..)
grammar S.Sort (C.Word Plain) = by (act A.NameSort ∷ [])
grammar S.Sort (C.Word Dotted) = by (act A.NameSort ∷ [])
grammar S.Sort C.SortVariable = by (act A.VariableSort ∷ [])
grammar S.Sort (C.Opener O.Open) = by (any S.SortInside ∷ [])
grammar S.SortInside (C.Word Plain) = by (act A.NoSorts ∷ any S.Sorts ∷ act A.ConSort ∷ [])
grammar S.SortInside (C.Word Dotted) = by (act A.NoSorts ∷ any S.Sorts ∷ act A.ConSort ∷ [])
grammar S.Sorts (C.Mark M.Close) = by []
grammar S.Sorts _ = as_any S.Sort (act A.AddSort ∷ any S.Sorts ∷ [])
grammar S.SquareSorts (C.Mark M.CloseBracket) = by []
grammar S.SquareSorts _ = as_any S.Sort (act A.AddSort ∷ any S.SquareSorts ∷ [])
-- sort variables and the bracket; they differ
grammar S.SortVariables (C.Mark M.Close) = by []
grammar S.SortVariables C.SortVariable = by_new (act A.AddName ∷ any S.SortVariables ∷ [])
-- the header of a domain or a datatype: N, (M 'S ..)
grammar S.Header (C.Word Plain) = by (act A.NoNames ∷ [])
grammar S.Header (C.Opener O.Open) = by (act A.Drop ∷ name ∷ I.Token C.SortVariable ∷ act A.OneName ∷ any S.SortVariables ∷ [])
-- (domain N), (domain (M 'S ..)), and without the outer pair
grammar S.DirectiveInside (C.Directive D.Domain) = by (act A.Drop ∷ act A.Drop ∷ any S.Header ∷ mark M.Close ∷ act A.Domain ∷ [])
grammar S.Directive (C.Directive D.Domain) = by (any S.Header ∷ act A.Domain ∷ [])
-- (datatype N c (d S ..)), datatype N := c | (d S ..)
grammar S.DirectiveInside (C.Directive D.Datatype) = by (act A.Drop ∷ act A.Drop ∷ any S.Header ∷ act A.NoConstructors ∷ any S.Constructor ∷ any S.Constructors ∷ act A.Datatype ∷ [])
grammar S.Directive (C.Directive D.Datatype) = by (any S.Header ∷ mark M.Becomes ∷ act A.NoConstructors ∷ any S.Constructor ∷ any S.ConstructorRows ∷ act A.Datatype ∷ [])
grammar S.Constructor (C.Word Plain) = by (act A.NoSorts ∷ act A.AddConstructor ∷ [])
grammar S.Constructor (C.Opener O.Open) = by (act A.Drop ∷ name ∷ act A.NoSorts ∷ any S.Sorts ∷ act A.AddConstructor ∷ [])
grammar S.Constructors (C.Mark M.Close) = by []
grammar S.Constructors _ = as_any S.Constructor (any S.Constructors ∷ [])
grammar S.ConstructorRows (C.Mark M.Bar) = by (any S.Constructor ∷ any S.ConstructorRows ∷ [])
grammar S.ConstructorRows _ = skip Any []
-- (declare f S), (declare (f g) (-> (S ..) S)), with ('T ..) before the sort
grammar S.DirectiveInside (C.Directive D.Declare) = by (act A.Drop ∷ act A.Drop ∷ any S.Group ∷ act A.NoParameters ∷ any S.Signature ∷ mark M.Close ∷ act A.Declare ∷ [])
grammar S.Group (C.Word Plain) = by (act A.OneName ∷ [])
grammar S.Group (C.Opener O.Open) = by (act A.Drop ∷ name ∷ act A.OneName ∷ any S.GroupNames ∷ [])
grammar S.GroupNames (C.Word Plain) = by (act A.AddName ∷ any S.GroupNames ∷ [])
grammar S.GroupNames (C.Mark M.Close) = by []
grammar S.Signature (C.Opener O.Open) = by (any S.SignatureInside ∷ [])
grammar S.Signature _ = as_any S.Sort (act A.NoArguments ∷ [])
grammar S.SignatureInside C.SortVariable = by (act A.OneName ∷ any S.SortVariables ∷ act A.Parameters ∷ any S.Type ∷ [])
grammar S.SignatureInside (C.Mark M.Close) = by (act A.NoNames ∷ act A.Parameters ∷ any S.Type ∷ [])
grammar S.SignatureInside _ = as_any S.TypeInside []
grammar S.Type (C.Opener O.Open) = by (any S.TypeInside ∷ [])
grammar S.Type _ = as_any S.Sort (act A.NoArguments ∷ [])
grammar S.TypeInside (C.Mark M.To) = by (act A.Drop ∷ opener O.Open ∷ act A.Drop ∷ act A.NoSorts ∷ any S.Sorts ∷ any S.Sort ∷ mark M.Close ∷ [])
grammar S.TypeInside _ = as_any S.SortInside (act A.NoArguments ∷ [])
-- declare f, g: S, declare f: ('T ..) [S ..] -> S
grammar S.Directive (C.Directive D.Declare) = by (name ∷ act A.OneName ∷ any S.DeclaredNames ∷ act A.NoParameters ∷ any S.BareSignature ∷ act A.Declare ∷ [])
grammar S.DeclaredNames (C.Mark M.Comma) = by (name ∷ act A.AddName ∷ any S.DeclaredNames ∷ [])
grammar S.DeclaredNames (C.Mark M.Colon) = by []
grammar S.BareSignature (C.Opener O.Open) = by (any S.BareSignatureInside ∷ [])
grammar S.BareSignature _ = as_any S.BareType []
grammar S.BareSignatureInside C.SortVariable = by (act A.OneName ∷ any S.SortVariables ∷ act A.Parameters ∷ any S.BareType ∷ [])
grammar S.BareSignatureInside (C.Mark M.Close) = by (act A.NoNames ∷ act A.Parameters ∷ any S.BareType ∷ [])
grammar S.BareSignatureInside _ = as_any S.SortInside (act A.NoArguments ∷ [])
grammar S.BareType (C.Opener O.OpenBracket) = by (act A.Drop ∷ act A.NoSorts ∷ any S.SquareSorts ∷ mark M.To ∷ any S.Sort ∷ [])
grammar S.BareType _ = as_any S.Sort (act A.NoArguments ∷ [])
-- (define x F), define x := F
grammar S.DirectiveInside (C.Directive D.Define) = by (act A.Drop ∷ act A.Drop ∷ any S.DefinitionInside ∷ [])
grammar S.DefinitionInside (C.Word Plain) = by (any S.Phrase ∷ mark M.Close ∷ act A.Define ∷ [])
grammar S.Directive (C.Directive D.Define) = by (any S.Definition ∷ [])
grammar S.Definition (C.Word Plain) = by (mark M.Becomes ∷ any S.Phrase ∷ act A.Define ∷ [])
-- (define (f x ..) F), define (f x ..) := F
grammar S.DefinitionInside (C.Opener O.Open) = by (act A.Drop ∷ name ∷ act A.NoNames ∷ any S.Parameters ∷ any S.Phrase ∷ mark M.Close ∷ act A.DefineFun ∷ [])
grammar S.Definition (C.Opener O.Open) = by (act A.Drop ∷ name ∷ act A.NoNames ∷ any S.Parameters ∷ mark M.Becomes ∷ any S.Phrase ∷ act A.DefineFun ∷ [])
-- (assert E), (assert* E), assert E, assert x := E, also with `assert*`
grammar S.DirectiveInside (C.Directive D.Assert) = by (act A.Drop ∷ act A.Drop ∷ expression S.Phrase ∷ act A.Unnamed ∷ mark M.Close ∷ act A.Assert ∷ [])
grammar S.DirectiveInside (C.Directive D.AssertClosed) = by (act A.Drop ∷ act A.Drop ∷ expression S.Phrase ∷ act A.Unnamed ∷ mark M.Close ∷ act A.AssertClosed ∷ [])
grammar S.Directive (C.Directive D.Assert) = by (any S.Hypothesis ∷ act A.Assert ∷ [])
grammar S.Directive (C.Directive D.AssertClosed) = by (any S.Hypothesis ∷ act A.AssertClosed ∷ [])
-- (load "f"), load "f"
grammar S.DirectiveInside (C.Directive D.Load) = by (act A.Drop ∷ act A.Drop ∷ I.Token C.Text ∷ mark M.Close ∷ act A.Load ∷ [])
grammar S.Directive (C.Directive D.Load) = by (I.Token C.Text ∷ act A.Load ∷ [])
-- F
grammar S.Directive (C.Opener O.Open) = by (act A.Again ∷ any S.DirectiveInside ∷ [])
grammar S.Directive _ = as_any S.Phrase (act A.Say ∷ [])
grammar S.DirectiveInside _ = as_any S.Inside (act A.SayAt ∷ [])
-- _
grammar S.Pattern C.Wild = by (act A.AnyPattern ∷ [])
-- x, M.x
grammar S.Pattern (C.Word Plain) = by (act A.NamePattern ∷ [])
grammar S.Pattern (C.Word Dotted) = by (act A.NamePattern ∷ [])
-- "s"
grammar S.Pattern C.Text = by (act A.StringPattern ∷ [])
-- [P ..]
grammar S.Pattern (C.Opener O.OpenBracket) = by (act A.NoPatterns ∷ any S.SquarePatterns ∷ act A.ListPattern ∷ [])
grammar S.SquarePatterns (C.Mark M.CloseBracket) = by []
grammar S.SquarePatterns _ = as_any S.Pattern (act A.AddPattern ∷ any S.SquarePatterns ∷ [])
-- (list-of P Q)
grammar S.Pattern (C.Opener O.Open) = by (any S.PatternInside ∷ [])
grammar S.PatternInside (C.Mark M.ListOf) = by (any S.Pattern ∷ any S.Pattern ∷ mark M.Close ∷ act A.ListOfPattern ∷ [])
-- (f P ..), (= P Q), (not P), (and P Q), ..
grammar S.PatternInside (C.Word Plain) = by (act A.NoPatterns ∷ any S.Patterns ∷ act A.AppPattern ∷ [])
grammar S.PatternInside (C.Word Dotted) = by (act A.NoPatterns ∷ any S.Patterns ∷ act A.AppPattern ∷ [])
grammar S.PatternInside (C.Word Logical) = by (act A.NoPatterns ∷ any S.Patterns ∷ act A.AppPattern ∷ [])
grammar S.PatternInside (C.Word Infix) = by (act A.NoPatterns ∷ any S.Patterns ∷ act A.AppPattern ∷ [])
grammar S.Patterns (C.Mark M.Close) = by []
grammar S.Patterns _ = as_any S.Pattern (act A.AddPattern ∷ any S.Patterns ∷ [])
-- (some-var x), (some-term x), (some-sent x), (some-list x)
grammar S.PatternInside C.SomeOf = by (name ∷ mark M.Close ∷ act A.SomePattern ∷ [])
-- nothing else
grammar _ _ = none
