use Rattle.std.proofs.Common.{◌≡◌, ◌≤◌, List, ◌∷◌, ◌++◌, map, subst, arith}
use Rattle.ath_numbering.specs.Trees.{pattern_of, patterns_of}
use Rattle.ath_numbering.specs.declared.tree.PatternTree.{PatternTree}
use Rattle.ath_numbering.proofs.tree.PatternTree.TheLaws.{the_size}
use Rattle.ath_syntax.specs.Proper.{ProperPatterns}
use Rattle.ath_syntax.proofs.Growth.{KeepsNodes-refl, KeepsNodes-trans}
use Rattle.ath_numbering.proofs.Listings.{Taken-none, Taken-more, Taken-split, Taken-smaller}
use Rattle.ath_numbering.proofs.PatternLaws.{any_node, name_node, string_node, list_node, list_of_node, app_node, some_node, pattern_fits, proper_among, patterns_listed}
use Rattle.ath_numbering.proofs.pattern.+patterns.Goals as goal

pub number_pattern-returns : goal.number_pattern-returns
number_pattern-returns t c = record { stands = c.in_ok-number.ensures.stands _ c.in_ok-node.ensures.stands; kept = KeepsNodes-trans c.pattern_node.ensures.kept c.add_pat.ensures.kept }

pub pattern_node-returns-in-Any : goal.pattern_node-returns-in-Any
pattern_node-returns-in-Any t c = record { stands = any_node _ _ c.in-Any.is; kept = KeepsNodes-refl _ }

pub pattern_node-returns-in-Name : goal.pattern_node-returns-in-Name
pattern_node-returns-in-Name t c = record { stands = name_node _ _ _ c.in-Name.is; kept = KeepsNodes-refl _ }

pub pattern_node-returns-in-Str : goal.pattern_node-returns-in-Str
pattern_node-returns-in-Str t c = record { stands = string_node _ _ _ c.in-Str.is; kept = KeepsNodes-refl _ }

pub pattern_node-returns-in_ok-parts-in-List : goal.pattern_node-returns-in_ok-parts-in-List
pattern_node-returns-in_ok-parts-in-List t c = record { stands = list_node _ _ _ _ c.in-List.is c.in_ok-parts-in-List.ensures.stands; kept = c.number_patterns.ensures.kept }

pub pattern_node-returns-in_ok-rest-in-ListOf : goal.pattern_node-returns-in_ok-rest-in-ListOf
pattern_node-returns-in_ok-rest-in-ListOf t c = record {
  stands = list_of_node _ _ _ _ _ _ _ _ _ c.in-ListOf.is c.into_inner.ensures c.into_inner-in-ListOf.ensures c.in_ok-first-in-ListOf.ensures.stands c.number_pattern-in-ListOf.ensures.kept c.in_ok-rest-in-ListOf.ensures.stands;
  kept = KeepsNodes-trans c.number_pattern.ensures.kept c.number_pattern-in-ListOf.ensures.kept;
}

pub pattern_node-returns-in_ok-parts-in-App : goal.pattern_node-returns-in_ok-parts-in-App
pattern_node-returns-in_ok-parts-in-App t c = record { stands = app_node _ _ _ _ _ c.in-App.is c.in_ok-parts-in-App.ensures.stands; kept = c.number_patterns-in-App.ensures.kept }

pub pattern_node-returns-in-SomeOf : goal.pattern_node-returns-in-SomeOf
pattern_node-returns-in-SomeOf t c = record { stands = some_node _ _ _ _ c.in-SomeOf.is; kept = KeepsNodes-refl _ }

pub number_pattern-add_pat-requires : goal.number_pattern-add_pat-requires
number_pattern-add_pat-requires t c = pattern_fits _ _ _ c.in_ok-node.ensures.stands c.requires

pub number_patterns-loop-tree-init : goal.number_patterns-loop-tree-init
number_patterns-loop-tree-init t c = rw c.new-numbers.ensures.items (Taken-none patterns_listed _ _)

pub number_patterns-number_pattern-requires : goal.number_patterns-number_pattern-requires
number_patterns-number_pattern-requires t c =
    let split : c.args.trees ≡ c.pop.new.self ++ c.in-Some.tree ∷ c.loop-tree.invariant.taken = Taken-split patterns_listed _ _ _ _ _ _ _ c.loop-tree.invariant c.in-Some.ensures in
    let smaller : the_size c.in-Some.tree ≤ _ = Taken-smaller patterns_listed the_size _ _ _ _ _ _ _ c.loop-tree.invariant c.in-Some.ensures in
    (omega (arith, smaller), proper_among c.pop.new.self c.loop-tree.invariant.taken c.in-Some.tree (subst (λ (ps : List PatternTree). ProperPatterns (patterns_of (map pattern_of ps))) split c.requires))

pub number_patterns-loop-tree-preserved : goal.number_patterns-loop-tree-preserved
number_patterns-loop-tree-preserved t c = rw c.in_ok-push.ensures.items (Taken-more patterns_listed _ _ _ _ _ _ _ _ _ c.loop-tree.invariant c.in-Some.ensures c.number_pattern.ensures.kept c.in_ok-number_pattern.ensures.stands)
