use Rattle.std.proofs.Common.{subst, List, length, arith}
use Rattle.ath_sorts.specs.declared.sorts.Sort.{Sort}
use Rattle.ath_unifiers.specs.Unifiers.{IsClash}
use Rattle.ath_unifiers.proofs.GraphPairs.{none_found, solves_found}
use Rattle.ath_unifiers.proofs.GraphSolutions.{least_unifier, all_small, one_large, solution_there}
use Rattle.ath_unifiers.proofs.unification.unify.Goals as goal

pub clash-requires : goal.clash-requires
clash-requires c = none_found c.in_ok-graph.field-0 c.as_slice-pairs.result.now (length c.as_slice-pairs.result.now) c.in-None.is c.in_ok-graph.ensures (omega arith)

pub returns-in-None : goal.returns-in-None
returns-in-None c = subst (λ (ps : List (Sort × Sort)). IsClash ps c.in_ok-clash-in-None.field-0) c.as_slice-pairs.ensures.value c.in_ok-clash-in-None.ensures

pub returns-then-not-are_images_within_limits : goal.returns-then-not-are_images_within_limits
returns-then-not-are_images_within_limits c =
    let g = c.in-Some.graph in
    let pairs = c.args.pairs.now.items in
    let solves = solves_found c.in_ok-graph.field-0 g _ c.as_slice-pairs.result.now pairs (length c.as_slice-pairs.result.now) c.in-Some.is c.in_ok-graph.ensures (omega arith) c.as_slice-pairs.ensures.value in
    let s = solution_there g solves.stands.graph solves.trees in
    (s.0, least_unifier g pairs solves s.0 s.1, one_large g pairs solves s.0 s.1 c.if-not-are_images_within_limits.ensures)

pub returns : goal.returns
returns c =
    let g = c.in-Some.graph in
    let pairs = c.args.pairs.now.items in
    let solves = solves_found c.in_ok-graph.field-0 g _ c.as_slice-pairs.result.now pairs (length c.as_slice-pairs.result.now) c.in-Some.is c.in_ok-graph.ensures (omega arith) c.as_slice-pairs.ensures.value in
    let s = c.in_ok-solution.solution in
    let h = c.in_ok-solution.ensures in
    (least_unifier g pairs solves s h, h.moves, all_small g pairs solves s h c.if-not-are_images_within_limits.ensures)
