-- The values of the code, as the grammar has them, the newest first.
use Rattle.std.specs.Prelude.{List, [], ◌∷◌, map}
use Rattle.ath_sorts.specs.declared.sorts.Sym.{Sym}
use Rattle.ath_syntax.specs.Tree.{Bindings, Clauses, Branches, name_at, phrase_is, DirectiveTree, directive_at}
use Rattle.ath_grammar.specs.Trees as T
use Rattle.ath_grammar.specs.Trees.{no_place, no_name, a_place, a_name, a_variable, a_text, a_sort, sorts, a_pattern, patterns, names, a_phrase, phrases, bindings, clauses, branches, label, binders, constructors, parameters, a_directive}
use Rattle.ath_numbering.specs.declared.tree.PatternTree.{PatternTree}
use Rattle.ath_numbering.specs.declared.tree.PhraseTree.{PhraseTree}
use Rattle.ath_builder.specs.declared.values.Value.{Value}
use Rattle.ath_builder.specs.declared.values.Value.TheVariants as V
use Rattle.ath_builder.specs.declared.values.Values.{Values}
use Rattle.ath_numbering.specs.Trees.{pattern_of, patterns_of, phrase_of, phrases_of, bindings_of, clauses_of, branches_of, directive_of}

abbrev pub rows_of : List (Sym × PhraseTree) → Bindings
rows_of bs = bindings_of (map (λ b. (b.0, phrase_of b.1)) bs)

abbrev pub cases_of : List (PatternTree × PhraseTree) → Clauses
cases_of cs = clauses_of (map (λ c. (c.0, phrase_of c.1)) cs)

abbrev pub pairs_of : List (PhraseTree × PhraseTree) → Branches
pairs_of bs = branches_of (map (λ b. (phrase_of b.0, phrase_of b.1)) bs)

abbrev pub value_of : Value → T.Value
value_of (V.Place p) = a_place p
value_of (V.Name p n) = a_name p n
value_of (V.Variable p x k) = a_variable p x k
value_of (V.Text p s) = a_text p s
value_of (V.Sort s) = a_sort s
value_of (V.Sorts ss) = sorts ss
value_of (V.Pattern p) = a_pattern (pattern_of p)
value_of (V.Patterns ps) = patterns (patterns_of (map pattern_of ps))
value_of (V.Names ns) = names ns
value_of (V.Phrase x) = a_phrase (phrase_of x)
value_of (V.Phrases xs) = phrases (phrases_of (map phrase_of xs))
value_of (V.Bindings bs) = bindings (rows_of bs)
value_of (V.Clauses cs) = clauses (cases_of cs)
value_of (V.Branches bs) = branches (pairs_of bs)
value_of (V.Label n) = label n
value_of (V.Binders bs) = binders bs
value_of (V.Constructors cs) = constructors cs
value_of (V.Parameters vs) = parameters vs
value_of (V.Directive d) = a_directive (directive_of d)

abbrev pub held_on : List T.Value → List Value → List T.Value
held_on ws [] = ws
held_on ws (v ∷ vs) = held_on (value_of v ∷ ws) vs

abbrev pub held : Values → List T.Value
held r = held_on [] r.values.items

-- the directive in a value, or another one
abbrev pub directive_in : T.Value → DirectiveTree
directive_in (a_directive d) = d
directive_in v = directive_at no_place (phrase_is (name_at no_place no_name))
