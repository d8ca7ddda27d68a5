-- Each symbol of the grammar can be completed: a class for each, and a token of each class.
use Rattle.std.proofs.Common.{◌≡◌, ℕ, ◌+◌, ◌≤◌, List, [], ◌∷◌, Bool, true, false, not, ◌||◌, Option, Some, None, refl, ap, arith}
use Rattle.std.specs.List.{list_any}
use Rattle.std.proofs.lemmas.Bool.{ne_eqb}
use Rattle.ath_sorts.specs.declared.sorts.Sym.{Sym}
use Rattle.ath_syntax.specs.Tree.{same_name}
use Rattle.ath_grammar.specs.declared.class.WordClass.TheVariants.{Plain}
use Rattle.ath_grammar.specs.declared.class.Opener.TheVariants as O
use Rattle.ath_grammar.specs.declared.class.Mark.TheVariants as M
use Rattle.ath_grammar.specs.declared.class.Class.{Class}
use Rattle.ath_grammar.specs.declared.class.Class.TheVariants as C
use Rattle.ath_grammar.specs.declared.lexeme.Lexeme.{Lexeme}
use Rattle.ath_grammar.specs.declared.lexeme.Lexeme.TheVariants as L
use Rattle.ath_grammar.specs.declared.symbol.Symbol.{Symbol}
use Rattle.ath_grammar.specs.declared.symbol.Symbol.TheVariants as S
use Rattle.ath_grammar.specs.declared.action.Action.{Action}
use Rattle.ath_grammar.specs.declared.action.Guard.{Guard}
use Rattle.ath_grammar.specs.declared.action.Guard.TheVariants.{Free, New}
use Rattle.ath_grammar.specs.declared.item.Want.{Want}
use Rattle.ath_grammar.specs.declared.item.Want.TheVariants.{Any, Only}
use Rattle.ath_grammar.specs.Tokens.{at, class_of}
use Rattle.ath_grammar.specs.Tables.{skip}
use Rattle.ath_grammar.specs.Grammar.{grammar}
use Rattle.ath_grammar.specs.Trees.{Value, no_place, v1, seen, may_stand, trees}
use Rattle.ath_grammar.proofs.Completes.{Witness, Ends, ready}
use Rattle.ath_grammar.proofs.Classes.{holds_of_all, every}
use Rattle.ath_grammar.proofs.Clean.{clean_row}

-- a token of a class, and of this name where it has one
abbrev some : Class → Sym → Lexeme
some (C.Word w) n = L.Word w n
some C.Wild n = L.Wild n
some C.SomeOf n = L.SomeOf n
some C.Variable n = L.Variable n 0
some C.SortVariable n = L.SortVariable n
some C.Text n = L.Text []
some (C.Opener o) n = L.Opener o
some (C.Directive d) n = L.Directive d
some (C.Mark m) n = L.Mark m

pub some_class : (c : Class) (n : Sym) → class_of (at no_place (some c n)) ≡ c
some_class (C.Word w) n = refl
some_class C.Wild n = refl
some_class C.SomeOf n = refl
some_class C.Variable n = refl
some_class C.SortVariable n = refl
some_class C.Text n = refl
some_class (C.Opener o) n = refl
some_class (C.Directive d) n = refl
some_class (C.Mark m) n = refl

-- a number above all these names
abbrev above : List Sym → ℕ
above [] = 0
above (m ∷ ms) = m.0 + above ms + 1

is_new : (n : ℕ) (ns : List Sym) → above ns ≤ n → list_any (same_name (record { 0 = n })) ns ≡ false
is_new n [] h = refl
is_new n (m ∷ ms) h = or_false (same_name (record { 0 = n }) m) (list_any (same_name (record { 0 = n })) ms) (ne_eqb n m.0 (λ e. omega (arith, e, h))) (is_new n ms (omega (arith, h)))
  where
    or_false : (b c : Bool) → b ≡ false → c ≡ false → (b || c) ≡ false
    or_false true c e k = cc
    or_false false c e k = k

abbrev new_name : List Value → Sym
new_name vs = record { 0 = above (seen (v1 vs)) }

new_stands : (vs : List Value) → not (list_any (same_name (new_name vs)) (seen (v1 vs))) ≡ true
new_stands vs = ap (λ (b : Bool). not b) (is_new (above (seen (v1 vs))) (seen (v1 vs)) (omega arith))

abbrev suited : Guard → Class → Bool
suited Free c = true
suited New (C.Word w) = true
suited New C.SortVariable = true
suited New _ = false

pub token_stands : (g : Guard) (c : Class) (vs : List Value) → suited g c ≡ true → may_stand g (at no_place (some c (new_name vs))) vs ≡ true
token_stands Free c vs e = refl
token_stands New (C.Word w) vs e = new_stands vs
token_stands New C.SortVariable vs e = new_stands vs
token_stands New C.Wild vs e = cc
token_stands New C.SomeOf vs e = cc
token_stands New C.Variable vs e = cc
token_stands New C.Text vs e = cc
token_stands New (C.Opener o) vs e = cc
token_stands New (C.Directive d) vs e = cc
token_stands New (C.Mark m) vs e = cc

abbrev pub tokens : Witness trees
tokens = record { suits = suited; token = λ g c vs. at no_place (some c (new_name vs)); of_class = λ g c vs. some_class c (new_name vs); stands = token_stands }

pub free_suits : (c : Class) → tokens.suits Free c ≡ true
free_suits c = refl

-- the rows of a `datatype` end by what isn't `|`
abbrev is_bar : Class → Bool
is_bar (C.Mark M.Bar) = true
is_bar _ = false

abbrev ending : Symbol → Option (List Action)
ending S.ConstructorRows = Some []
ending _ = None

rows_end : (c : Class) → is_bar c ≡ false → grammar S.ConstructorRows c ≡ skip Any []
rows_end (C.Mark M.Bar) e = cc
rows_end _ e = refl

pub by_end : (s : Symbol) (xs : List Action) → ending s ≡ Some xs → (c : Class) → is_bar c ≡ false → grammar s c ≡ skip Any xs
by_end S.ConstructorRows [] e c h = rows_end c h
by_end S.ConstructorRows (x ∷ xs) e c h = cc
by_end S.Directive xs e c h = cc
by_end _ xs e c h = cc

abbrev pub ends : Ends grammar
ends = record { avoids = is_bar; actions = ending; by_skip = by_end; at_end = refl }

-- the class with which a symbol is completed soonest
abbrev pub easy : Symbol → Want → Class
easy S.Phrase (Only true) = C.Opener O.Open
easy S.Inside (Only true) = C.Mark M.Bang
easy S.Binders (Only true) = C.Opener O.Open
easy S.Binders w = C.Text
easy S.AfterBinder (Only true) = C.Opener O.Open
easy S.AfterBinder w = C.Text
easy S.AfterFirstBinder (Only true) = C.Opener O.Open
easy S.AfterFirstBinder w = C.Text
easy S.VariableSort w = C.Mark M.Colon
easy S.HypothesisName w = C.Mark M.Becomes
easy S.DeclaredNames w = C.Mark M.Colon
easy S.BranchRow w = C.Mark M.Else
easy S.BranchInside w = C.Mark M.Else
easy S.SquareSorts w = C.Mark M.CloseBracket
easy S.SquarePatterns w = C.Mark M.CloseBracket
easy S.SquareParts w = C.Mark M.CloseBracket
easy S.Sequence w = C.Mark M.CloseBrace
easy S.LetRows w = C.Mark M.CloseBrace
easy S.LetRecRows w = C.Mark M.CloseBrace
easy S.ClauseRows w = C.Mark M.CloseBrace
easy S.BranchRows w = C.Mark M.CloseBrace
easy S.Alternatives w = C.Mark M.CloseBrace
easy S.Let w = C.Opener O.OpenBrace
easy S.LetRec w = C.Opener O.OpenBrace
easy S.Clauses w = C.Opener O.OpenBrace
easy S.ClausesInside w = C.Opener O.OpenBrace
easy S.Check w = C.Opener O.OpenBrace
easy S.CheckInside w = C.Opener O.OpenBrace
easy S.Try w = C.Opener O.OpenBrace
easy S.TryInside w = C.Opener O.OpenBrace
easy S.Lambda w = C.Opener O.Open
easy S.Method w = C.Opener O.Open
easy S.Closure w = C.Opener O.Lambda
easy S.ClosureInside w = C.Opener O.Lambda
easy S.Constructors w = C.Mark M.Close
easy S.GroupNames w = C.Mark M.Close
easy S.Sorts w = C.Mark M.Close
easy S.Patterns w = C.Mark M.Close
easy S.Parameters w = C.Mark M.Close
easy S.SortVariables w = C.Mark M.Close
easy S.AfterOperator w = C.Mark M.Close
easy S.AfterWord w = C.Mark M.Close
easy S.AfterFirst w = C.Mark M.Close
easy S.Parts w = C.Mark M.Close
easy S.LetPairs w = C.Mark M.Close
easy S.LetRecPairs w = C.Mark M.Close
easy S.ClausePairs w = C.Mark M.Close
easy S.BranchPairs w = C.Mark M.Close
easy _ w = C.Word Plain

pub all_ready : (s : Symbol) (w : Want) → ready tokens.suits grammar ends easy 8 s w ≡ true
all_ready S.Directive Any = refl
all_ready S.Directive (Only false) = refl
all_ready S.Directive (Only true) = refl
all_ready _ Any = refl
all_ready _ (Only false) = refl
all_ready _ (Only true) = refl

-- no row has the item `|`
row_clean : (s : Symbol) → holds_of_all (λ c. clean_row is_bar (grammar s c)) ≡ true
row_clean S.Directive = refl
row_clean _ = refl

pub all_clean : (s : Symbol) (c : Class) → clean_row is_bar (grammar s c) ≡ true
all_clean s c = every (λ d. clean_row is_bar (grammar s d)) (row_clean s) c
