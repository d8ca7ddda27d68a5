-- The trees that are read, as the grammar has them.
use Rattle.std.specs.Prelude.{List, [], ◌∷◌, Option, Some, None}
use Rattle.ath_sorts.specs.declared.sorts.Sym.{Sym}
use Rattle.ath_syntax.specs.Tree.{Pattern, any_pattern, name_pattern, string_pattern, list_pattern, list_of_pattern, app_pattern, some_pattern, Patterns, no_patterns, more_patterns, Phrase, name_at, variable_at, string_at, list_at, ascribe_at, apply_at, call_at, lambda_at, method_at, let_at, letrec_at, match_at, check_at, try_at, seq_at, assume_at, absurd_at, pick_any_at, pick_witness_at, induct_at, cases_at, conclude_at, Phrases, no_phrases, more_phrases, Bindings, no_bindings, more_bindings, Clauses, no_clauses, more_clauses, Branches, no_branches, more_branches, Otherwise, no_else, else_phrase, Statement, domain_is, datatype_is, declare_is, define_is, define_fun_is, assert_is, load_is, phrase_is, DirectiveTree, directive_at}
use Rattle.ath_syntax.specs.declared.place.Pos.{Pos}
use Rattle.ath_numbering.specs.declared.tree.ClosureWord.{ClosureWord}
use Rattle.ath_numbering.specs.declared.tree.ClosureWord.TheVariants.{Lambda, Method}
use Rattle.ath_numbering.specs.declared.tree.LetWord.{LetWord}
use Rattle.ath_numbering.specs.declared.tree.LetWord.TheVariants.{Let, LetRec}
use Rattle.ath_numbering.specs.declared.tree.ClauseWord.{ClauseWord}
use Rattle.ath_numbering.specs.declared.tree.ClauseWord.TheVariants.{Match, Induct, Cases}
use Rattle.ath_numbering.specs.declared.tree.HypothesisWord.{HypothesisWord}
use Rattle.ath_numbering.specs.declared.tree.HypothesisWord.TheVariants.{Assume, Absurd, Conclude}
use Rattle.ath_numbering.specs.declared.tree.PatternTree.{PatternTree}
use Rattle.ath_numbering.specs.declared.tree.PatternTree.TheOpen as pattern
use Rattle.ath_numbering.specs.declared.tree.PatternTree.TheFolds.{fold-PatternTree}
use Rattle.ath_numbering.specs.declared.tree.PhraseTree.{PhraseTree}
use Rattle.ath_numbering.specs.declared.tree.PhraseTree.TheOpen as phrase
use Rattle.ath_numbering.specs.declared.tree.PhraseTree.TheFolds.{fold-PhraseTree}
use Rattle.ath_numbering.specs.declared.tree.StatementTree.{StatementTree}
use Rattle.ath_numbering.specs.declared.tree.StatementTree.TheVariants as says
use Rattle.ath_numbering.specs.declared.tree.DirectiveTree as read

abbrev pub closure_at : ClosureWord → Pos → List Sym → Phrase → Phrase
closure_at Lambda = lambda_at
closure_at Method = method_at

abbrev pub let_phrase : LetWord → Pos → Bindings → Phrase → Phrase
let_phrase Let = let_at
let_phrase LetRec = letrec_at

abbrev pub clauses_at : ClauseWord → Pos → Phrase → Clauses → Phrase
clauses_at Match = match_at
clauses_at Induct = induct_at
clauses_at Cases = cases_at

abbrev pub hypothesis_at : HypothesisWord → Pos → Option Sym → Phrase → Phrase → Phrase
hypothesis_at Assume = assume_at
hypothesis_at Absurd = absurd_at
hypothesis_at Conclude = conclude_at

abbrev pub patterns_of : List Pattern → Patterns
patterns_of [] = no_patterns
patterns_of (x ∷ xs) = more_patterns x (patterns_of xs)

abbrev pub pattern_step : pattern.PatternTree-F Pattern → Pattern
pattern_step pattern.Any = any_pattern
pattern_step (pattern.Name n) = name_pattern n
pattern_step (pattern.Str s) = string_pattern s
pattern_step (pattern.List ps) = list_pattern (patterns_of ps)
pattern_step (pattern.ListOf x y) = list_of_pattern x y
pattern_step (pattern.App f ps) = app_pattern f (patterns_of ps)
pattern_step (pattern.SomeOf k n) = some_pattern k n

abbrev pub pattern_of : PatternTree → Pattern
pattern_of = fold-PatternTree Pattern pattern_step

abbrev pub phrases_of : List Phrase → Phrases
phrases_of [] = no_phrases
phrases_of (x ∷ xs) = more_phrases x (phrases_of xs)

abbrev pub bindings_of : List (Sym × Phrase) → Bindings
bindings_of [] = no_bindings
bindings_of (b ∷ bs) = more_bindings b.0 b.1 (bindings_of bs)

abbrev pub clauses_of : List (PatternTree × Phrase) → Clauses
clauses_of [] = no_clauses
clauses_of (c ∷ cs) = more_clauses (pattern_of c.0) c.1 (clauses_of cs)

abbrev pub branches_of : List (Phrase × Phrase) → Branches
branches_of [] = no_branches
branches_of (b ∷ bs) = more_branches b.0 b.1 (branches_of bs)

abbrev pub otherwise_of : Option Phrase → Otherwise
otherwise_of None = no_else
otherwise_of (Some x) = else_phrase x

abbrev pub phrase_step : phrase.PhraseTree-F Phrase → Phrase
phrase_step (phrase.Name p n) = name_at p n
phrase_step (phrase.Var p x k s) = variable_at p x k s
phrase_step (phrase.Str p s) = string_at p s
phrase_step (phrase.List p xs) = list_at p (phrases_of xs)
phrase_step (phrase.Ascribe p x s) = ascribe_at p x s
phrase_step (phrase.Apply p f xs) = apply_at p f (phrases_of xs)
phrase_step (phrase.Call p f xs) = call_at p f (phrases_of xs)
phrase_step (phrase.Closure c p xs x) = closure_at c p xs x
phrase_step (phrase.Let k p bs x) = let_phrase k p (bindings_of bs) x
phrase_step (phrase.Clauses c p e cs) = clauses_at c p e (clauses_of cs)
phrase_step (phrase.Check p bs x) = check_at p (branches_of bs) (otherwise_of x)
phrase_step (phrase.Try p xs) = try_at p (phrases_of xs)
phrase_step (phrase.Seq p xs) = seq_at p (phrases_of xs)
phrase_step (phrase.Hypothesis h p n e d) = hypothesis_at h p n e d
phrase_step (phrase.PickAny p bs d) = pick_any_at p bs d
phrase_step (phrase.PickWitness p n f d) = pick_witness_at p n f d

abbrev pub phrase_of : PhraseTree → Phrase
phrase_of = fold-PhraseTree Phrase phrase_step

abbrev pub statement_of : StatementTree → Statement
statement_of (says.Domain n vs) = domain_is n vs
statement_of (says.Datatype n vs cs) = datatype_is n vs cs
statement_of (says.Declare ns vs ss s) = declare_is ns vs ss s
statement_of (says.Define n x) = define_is n (phrase_of x)
statement_of (says.DefineFun f xs x) = define_fun_is f xs (phrase_of x)
statement_of (says.Assert n closed x) = assert_is n closed (phrase_of x)
statement_of (says.Load s) = load_is s
statement_of (says.Phrase x) = phrase_is (phrase_of x)

abbrev pub directive_of : read.DirectiveTree → DirectiveTree
directive_of d = directive_at d.pos (statement_of d.statement)

-- lists with the newest first, from lists with the newest last
abbrev pub turned : {A : Type 0} → List A → List A → List A
turned ys [] = ys
turned ys (x ∷ xs) = turned (x ∷ ys) xs
