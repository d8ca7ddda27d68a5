use Rattle.std.proofs.Common.{◌≡◌, ◌≤◌, List, ◌∷◌, ◌++◌, map, None, refl, subst, arith}
use Rattle.ath_sorts.specs.declared.sorts.Sym.{Sym}
use Rattle.ath_numbering.specs.declared.tree.PatternTree.{PatternTree}
use Rattle.ath_numbering.specs.declared.tree.PhraseTree.{PhraseTree}
use Rattle.ath_numbering.specs.Trees.{phrase_of, phrases_of}
use Rattle.ath_numbering.specs.declared.tree.PhraseTree.TheFolds.{the_lemmas}
use Rattle.ath_numbering.proofs.tree.PhraseTree.TheLaws.{the_size}
use Rattle.ath_syntax.proofs.Growth.{KeepsNodes-trans}
use Rattle.ath_syntax.proofs.Kept.{keep_phrase, keep_pattern_number}
use Rattle.ath_syntax.specs.Proper.{ProperPhrases, ProperBindings, ProperClauses, ProperBranches}
use Rattle.ath_numbering.proofs.Depths.{most_phrases, most_bindings, most_clauses, most_branches, deeper}
use Rattle.ath_numbering.proofs.FormLaws.{list_parts, try_parts, seq_parts}
use Rattle.ath_numbering.proofs.PhraseLists.{bindings_read, clauses_read, branches_read, phrases_listed, bindings_listed, clauses_listed, branches_listed, proper_phrase_among, proper_binding_among, proper_clause_among, proper_branch_among}
use Rattle.ath_numbering.proofs.Listings.{Taken-none, Taken-more, Taken-split, Taken-smaller}
use Rattle.ath_numbering.proofs.number.+phrases.Goals as goal

pub placed_form-number_all-requires : goal.placed_form-number_all-requires
placed_form-number_all-requires t c = (grind (arith, the_lemmas), list_parts c.args.tree c.in-List.pos c.in-List.parts c.in-List.is c.requires)

pub placed_form-number_all-requires-in-Try : goal.placed_form-number_all-requires-in-Try
placed_form-number_all-requires-in-Try t c = (grind (arith, the_lemmas), try_parts c.args.tree c.in-Try.pos c.in-Try.parts c.in-Try.is c.requires)

pub placed_form-number_all-requires-in-Seq : goal.placed_form-number_all-requires-in-Seq
placed_form-number_all-requires-in-Seq t c = (grind (arith, the_lemmas), seq_parts c.args.tree c.in-Seq.pos c.in-Seq.parts c.in-Seq.is c.requires)

pub number_all-loop-tree-init : goal.number_all-loop-tree-init
number_all-loop-tree-init t c = rw c.new-numbers.ensures.items (Taken-none phrases_listed _ _)

pub number_all-number_phrase-requires : goal.number_all-number_phrase-requires
number_all-number_phrase-requires t c =
    let split : c.args.trees ≡ c.pop.new.self ++ c.in-Some.tree ∷ c.loop-tree.invariant.taken = Taken-split phrases_listed _ _ _ _ _ _ _ c.loop-tree.invariant c.in-Some.ensures in
    let smaller : the_size c.in-Some.tree ≤ most_phrases c.args.trees = Taken-smaller phrases_listed the_size _ _ _ _ _ _ _ c.loop-tree.invariant c.in-Some.ensures in
    (omega (arith, smaller), proper_phrase_among None _ _ c.in-Some.tree (subst (λ (xs : List PhraseTree). ProperPhrases None (phrases_of (map phrase_of xs))) split c.requires))

pub number_all-loop-tree-preserved : goal.number_all-loop-tree-preserved
number_all-loop-tree-preserved t c = rw c.in_ok-push.ensures.items (Taken-more phrases_listed _ _ _ _ _ _ _ _ _ c.loop-tree.invariant c.in-Some.ensures c.number_phrase.ensures.kept c.in_ok-number_phrase.ensures.stands)

pub number_bindings-loop-name-init : goal.number_bindings-loop-name-init
number_bindings-loop-name-init t c = rw c.new-numbers.ensures.items (Taken-none bindings_listed _ _)

pub number_bindings-number_phrase-requires : goal.number_bindings-number_phrase-requires
number_bindings-number_phrase-requires t c =
    let split : c.args.rows ≡ c.pop.new.self ++ (c.in-Some.name, c.in-Some.tree) ∷ c.loop-name.invariant.taken = Taken-split bindings_listed _ _ _ _ _ _ _ c.loop-name.invariant c.in-Some.ensures in
    let smaller : the_size c.in-Some.tree ≤ most_bindings c.args.rows = Taken-smaller bindings_listed (λ b. the_size b.1) _ _ _ _ _ _ _ c.loop-name.invariant c.in-Some.ensures in
    (omega (arith, smaller), proper_binding_among None _ _ (c.in-Some.name, c.in-Some.tree) (subst (λ (bs : List (Sym × PhraseTree)). ProperBindings None (bindings_read bs)) split c.requires))

pub number_bindings-loop-name-preserved : goal.number_bindings-loop-name-preserved
number_bindings-loop-name-preserved t c = rw c.in_ok-push.ensures.items (Taken-more bindings_listed _ _ _ _ _ _ _ _ _ c.loop-name.invariant c.in-Some.ensures c.number_phrase.ensures.kept (refl, c.in_ok-number_phrase.ensures.stands))

pub number_clauses-loop-pattern-init : goal.number_clauses-loop-pattern-init
number_clauses-loop-pattern-init t c = rw c.new-numbers.ensures.items (Taken-none clauses_listed _ _)

pub number_clauses-number_pattern-requires : goal.number_clauses-number_pattern-requires
number_clauses-number_pattern-requires t c =
    let split : c.args.rows ≡ c.pop.new.self ++ (c.in-Some.pattern, c.in-Some.tree) ∷ c.loop-pattern.invariant.taken = Taken-split clauses_listed _ _ _ _ _ _ _ c.loop-pattern.invariant c.in-Some.ensures in
    (proper_clause_among c.requires.0 _ _ (c.in-Some.pattern, c.in-Some.tree) (subst (λ (cs : List (PatternTree × PhraseTree)). ProperClauses c.requires.0 (clauses_read cs)) split c.requires.1)).0

pub number_clauses-number_phrase-requires : goal.number_clauses-number_phrase-requires
number_clauses-number_phrase-requires t c =
    let split : c.args.rows ≡ c.pop.new.self ++ (c.in-Some.pattern, c.in-Some.tree) ∷ c.loop-pattern.invariant.taken = Taken-split clauses_listed _ _ _ _ _ _ _ c.loop-pattern.invariant c.in-Some.ensures in
    let smaller : the_size c.in-Some.tree ≤ most_clauses c.args.rows = Taken-smaller clauses_listed (λ b. the_size b.1) _ _ _ _ _ _ _ c.loop-pattern.invariant c.in-Some.ensures in
    (omega (arith, smaller), (proper_clause_among c.requires.0 _ _ (c.in-Some.pattern, c.in-Some.tree) (subst (λ (cs : List (PatternTree × PhraseTree)). ProperClauses c.requires.0 (clauses_read cs)) split c.requires.1)).1)

pub number_clauses-loop-pattern-preserved : goal.number_clauses-loop-pattern-preserved
number_clauses-loop-pattern-preserved t c = rw c.in_ok-push.ensures.items (Taken-more clauses_listed _ _ _ _ _ _ _ _ _ c.loop-pattern.invariant c.in-Some.ensures (KeepsNodes-trans c.number_pattern.ensures.kept c.number_phrase.ensures.kept) (keep_pattern_number _ _ c.number_phrase.ensures.kept _ _ c.in_ok-pattern.ensures.stands, c.in_ok-phrase.ensures.stands))

pub number_branches-loop-condition-init : goal.number_branches-loop-condition-init
number_branches-loop-condition-init t c = rw c.new-numbers.ensures.items (Taken-none branches_listed _ _)

pub number_branches-number_phrase-requires : goal.number_branches-number_phrase-requires
number_branches-number_phrase-requires t c =
    let split : c.args.rows ≡ c.pop.new.self ++ (c.in-Some.condition, c.in-Some.body) ∷ c.loop-condition.invariant.taken = Taken-split branches_listed _ _ _ _ _ _ _ c.loop-condition.invariant c.in-Some.ensures in
    let smaller : deeper (the_size c.in-Some.condition) (the_size c.in-Some.body) ≤ most_branches c.args.rows = Taken-smaller branches_listed (λ b. deeper (the_size b.0) (the_size b.1)) _ _ _ _ _ _ _ c.loop-condition.invariant c.in-Some.ensures in
    (omega (arith, smaller), (proper_branch_among c.requires.0 _ _ (c.in-Some.condition, c.in-Some.body) (subst (λ (bs : List (PhraseTree × PhraseTree)). ProperBranches c.requires.0 (branches_read bs)) split c.requires.1)).0)

pub number_branches-number_phrase-requires-in-Some : goal.number_branches-number_phrase-requires-in-Some
number_branches-number_phrase-requires-in-Some t c =
    let split : c.args.rows ≡ c.pop.new.self ++ (c.in-Some.condition, c.in-Some.body) ∷ c.loop-condition.invariant.taken = Taken-split branches_listed _ _ _ _ _ _ _ c.loop-condition.invariant c.in-Some.ensures in
    let smaller : deeper (the_size c.in-Some.condition) (the_size c.in-Some.body) ≤ most_branches c.args.rows = Taken-smaller branches_listed (λ b. deeper (the_size b.0) (the_size b.1)) _ _ _ _ _ _ _ c.loop-condition.invariant c.in-Some.ensures in
    (omega (arith, smaller), (proper_branch_among c.requires.0 _ _ (c.in-Some.condition, c.in-Some.body) (subst (λ (bs : List (PhraseTree × PhraseTree)). ProperBranches c.requires.0 (branches_read bs)) split c.requires.1)).1)

pub number_branches-loop-condition-preserved : goal.number_branches-loop-condition-preserved
number_branches-loop-condition-preserved t c = rw c.in_ok-push.ensures.items (Taken-more branches_listed _ _ _ _ _ _ _ _ _ c.loop-condition.invariant c.in-Some.ensures (KeepsNodes-trans c.number_phrase.ensures.kept c.number_phrase-in-Some.ensures.kept) (keep_phrase _ _ c.number_phrase-in-Some.ensures.kept _ _ c.in_ok-condition.ensures.stands, c.in_ok-body.ensures.stands))
