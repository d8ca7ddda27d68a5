-- The newest value, and lists with one more at their end.
use Rattle.std.proofs.Common.{◌≡◌, List, [], ◌∷◌, ◌++◌, map, Bool, Some, None, refl, sym, ◌∙◌, ap}
use Rattle.ath_sorts.specs.declared.sorts.Sym.{Sym}
use Rattle.ath_syntax.specs.declared.place.Pos.{Pos}
use Rattle.ath_syntax.specs.Tree.{is_deduction, check_at, no_else, else_phrase, Patterns, more_patterns, Phrase, Phrases, more_phrases, Bindings, more_bindings, Clauses, more_clauses, Branches, more_branches, bound_names}
use Rattle.ath_grammar.specs.Trees as T
use Rattle.ath_grammar.specs.Trees.{last_deduces, add_pattern, add_phrase, add_binding, add_clause, add_branch}
use Rattle.ath_numbering.specs.declared.tree.PatternTree.{PatternTree}
use Rattle.ath_numbering.specs.declared.tree.LetWord.{LetWord}
use Rattle.ath_numbering.specs.declared.tree.PhraseTree.{PhraseTree, Let, Check}
use Rattle.ath_numbering.specs.declared.tree.PhraseTree.TheOpen as one
use Rattle.ath_numbering.specs.declared.tree.PhraseTree.TheVariants.{rolls-Let, rolls-Check}
use Rattle.ath_numbering.specs.declared.tree.PhraseTree.TheFolds.{fold-roll-PhraseTree}
use Rattle.ath_builder.specs.declared.values.Value.{Value}
use Rattle.ath_numbering.specs.Trees.{pattern_of, patterns_of, phrase_of, phrases_of, phrase_step, let_phrase}
use Rattle.ath_builder.specs.Values.{value_of, held_on, rows_of, cases_of, pairs_of}

pub held_last : (ws : List T.Value) (vs : List Value) (v : Value) → held_on ws (vs ++ v ∷ []) ≡ value_of v ∷ held_on ws vs
held_last ws [] v = refl
held_last ws (u ∷ vs) v = held_last (value_of u ∷ ws) vs v

pub patterns_last : (ps : List PatternTree) (p : PatternTree) → patterns_of (map pattern_of (ps ++ p ∷ [])) ≡ add_pattern (patterns_of (map pattern_of ps)) (pattern_of p)
patterns_last [] p = refl
patterns_last (q ∷ ps) p = ap (λ (qs : Patterns). more_patterns (pattern_of q) qs) (patterns_last ps p)

pub phrases_last : (xs : List PhraseTree) (x : PhraseTree) → phrases_of (map phrase_of (xs ++ x ∷ [])) ≡ add_phrase (phrases_of (map phrase_of xs)) (phrase_of x)
phrases_last [] x = refl
phrases_last (y ∷ xs) x = ap (λ (ys : Phrases). more_phrases (phrase_of y) ys) (phrases_last xs x)

pub rows_last : (bs : List (Sym × PhraseTree)) (n : Sym) (x : PhraseTree) → rows_of (bs ++ (n, x) ∷ []) ≡ add_binding (rows_of bs) n (phrase_of x)
rows_last [] n x = refl
rows_last (b ∷ bs) n x = ap (λ (rs : Bindings). more_bindings b.0 (phrase_of b.1) rs) (rows_last bs n x)

pub cases_last : (cs : List (PatternTree × PhraseTree)) (p : PatternTree) (x : PhraseTree) → cases_of (cs ++ (p, x) ∷ []) ≡ add_clause (cases_of cs) (pattern_of p) (phrase_of x)
cases_last [] p x = refl
cases_last (c ∷ cs) p x = ap (λ (rs : Clauses). more_clauses (pattern_of c.0) (phrase_of c.1) rs) (cases_last cs p x)

pub pairs_last : (bs : List (PhraseTree × PhraseTree)) (e x : PhraseTree) → pairs_of (bs ++ (e, x) ∷ []) ≡ add_branch (pairs_of bs) (phrase_of e) (phrase_of x)
pairs_last [] e x = refl
pairs_last (b ∷ bs) e x = ap (λ (rs : Branches). more_branches (phrase_of b.0) (phrase_of b.1) rs) (pairs_last bs e x)

-- the kind of the last that is bound, and the names that are
pub last_kind : (d : Bool) (bs : List (Sym × PhraseTree)) (b : Sym × PhraseTree) → last_deduces d (rows_of (bs ++ b ∷ [])) ≡ is_deduction (phrase_of b.1)
last_kind d [] b = refl
last_kind d (c ∷ bs) b = last_kind (is_deduction (phrase_of c.1)) bs b

pub names_bound : (bs : List (Sym × PhraseTree)) → bound_names (rows_of bs) ≡ map (λ b. b.0) bs
names_bound [] = refl
names_bound (b ∷ bs) = ap (λ (ns : List Sym). b.0 ∷ ns) (names_bound bs)

-- forms whose parts stand in lists of pairs
pub let_is : (w : LetWord) (p : Pos) (bs : List (Sym × PhraseTree)) (x : PhraseTree) → phrase_of (Let w p bs x) ≡ let_phrase w p (rows_of bs) (phrase_of x)
let_is w p bs x = ap phrase_of (sym (rolls-Let w p bs x)) ∙ fold-roll-PhraseTree Phrase phrase_step (one.Let w p bs x)

pub check_is : (p : Pos) (bs : List (PhraseTree × PhraseTree)) → phrase_of (Check p bs None) ≡ check_at p (pairs_of bs) no_else
check_is p bs = ap phrase_of (sym (rolls-Check p bs None)) ∙ fold-roll-PhraseTree Phrase phrase_step (one.Check p bs None)

pub check_else_is : (p : Pos) (bs : List (PhraseTree × PhraseTree)) (x : PhraseTree) → phrase_of (Check p bs (Some x)) ≡ check_at p (pairs_of bs) (else_phrase (phrase_of x))
check_else_is p bs x = ap phrase_of (sym (rolls-Check p bs (Some x))) ∙ fold-roll-PhraseTree Phrase phrase_step (one.Check p bs (Some x))
