use Rattle.std.proofs.Common.{refl, sym, ◌∙◌, ap, arith}
use Rattle.ath_terms.specs.Trees.{term_at}
use Rattle.ath_trees.specs.Measure.{term_size, term_depth}
use Rattle.ath_trees.proofs.Renaming.{term-absent}
use Rattle.ath_subst.proofs.CountLaws.{nodes-next, nodes-fit, nodes-end, levels-next, levels-end, few_nodes, few_levels}
use Rattle.ath_subst.proofs.PuttingLaws.{img, size-is, depth-is}
use Rattle.ath_subst.proofs.counts.+term_counts.Goals as goal

pub overflow_add-nodes : goal.overflow_add-nodes
overflow_add-nodes t c =
    let w = nodes-fit (λ j. term_size (img c.args.store.now c.args.x.now c.args.by.0 j)) c.as_slice-parts.result.now c.loop-i.i c.loop-i.nodes c.term_counts-part.result.nodes _ (record { 0 = 0 }) (omega arith) c.loop-i.invariant.nodes c.term_counts-part.ensures.nodes (size-is c.args.store.now c.args.x.now c.args.by.0 c.args.t.0 c.term.result.now c.term.result.now refl c.term.ensures.tree c.term.ensures.below c.in-App.field-0 c.in-App.field-1 c.in-App.args c.as_slice-parts.result.now c.in-App.is c.as_slice-parts.ensures c.requires.inside c.requires.there) in
    let m = few_nodes c.args.x.now (term_at c.args.store.now.terms c.args.by.0) (term_at c.args.store.now.terms c.args.t.0) _ _ _ c.of_term-own.ensures.nodes c.of_term-own.ensures.few c.of_term-put.ensures.nodes c.of_term-put.ensures.few refl in
    omega (arith, w, m)

pub loop-i-preserved : goal.loop-i-preserved
loop-i-preserved t c = record {
  nodes = nodes-next (λ j. term_size (img c.args.store.now c.args.x.now c.args.by.0 j)) c.as_slice-parts.result.now c.loop-i.i c.loop-i.nodes c.term_counts-part.result.nodes (record { 0 = 0 }) (omega arith) c.loop-i.invariant.nodes c.term_counts-part.ensures.nodes;
  levels = c.max-levels.ensures ∙ levels-next (λ j. term_depth (img c.args.store.now c.args.x.now c.args.by.0 j)) c.as_slice-parts.result.now c.loop-i.i c.loop-i.levels c.term_counts-part.result.levels (record { 0 = 0 }) (omega arith) c.loop-i.invariant.levels c.term_counts-part.ensures.levels;
}

pub overflow_add-result : goal.overflow_add-result
overflow_add-result t c =
    let w = levels-end (λ j. term_depth (img c.args.store.now c.args.x.now c.args.by.0 j)) c.as_slice-parts.result.now c.loop-i.i c.loop-i.levels _ (omega arith) c.loop-i.invariant.levels (depth-is c.args.store.now c.args.x.now c.args.by.0 c.args.t.0 c.term.result.now c.term.result.now refl c.term.ensures.tree c.term.ensures.below c.in-App.field-0 c.in-App.field-1 c.in-App.args c.as_slice-parts.result.now c.in-App.is c.as_slice-parts.ensures c.requires.inside c.requires.there) in
    let m = few_levels c.args.x.now (term_at c.args.store.now.terms c.args.by.0) (term_at c.args.store.now.terms c.args.t.0) _ _ _ c.of_term-own.ensures.levels c.of_term-own.ensures.shallow c.of_term-put.ensures.levels c.of_term-put.ensures.shallow w in
    omega (arith, m)

pub returns-after-loop-i-clause-nodes : goal.returns-after-loop-i-clause-nodes
returns-after-loop-i-clause-nodes t c = nodes-end (λ j. term_size (img c.args.store.now c.args.x.now c.args.by.0 j)) c.as_slice-parts.result.now c.loop-i.i c.loop-i.nodes _ (omega arith) c.loop-i.invariant.nodes (size-is c.args.store.now c.args.x.now c.args.by.0 c.args.t.0 c.term.result.now c.term.result.now refl c.term.ensures.tree c.term.ensures.below c.in-App.field-0 c.in-App.field-1 c.in-App.args c.as_slice-parts.result.now c.in-App.is c.as_slice-parts.ensures c.requires.inside c.requires.there)

pub returns-after-loop-i-clause-levels : goal.returns-after-loop-i-clause-levels
returns-after-loop-i-clause-levels t c = levels-end (λ j. term_depth (img c.args.store.now c.args.x.now c.args.by.0 j)) c.as_slice-parts.result.now c.loop-i.i c.loop-i.levels _ (omega arith) c.loop-i.invariant.levels (depth-is c.args.store.now c.args.x.now c.args.by.0 c.args.t.0 c.term.result.now c.term.result.now refl c.term.ensures.tree c.term.ensures.below c.in-App.field-0 c.in-App.field-1 c.in-App.args c.as_slice-parts.result.now c.in-App.is c.as_slice-parts.ensures c.requires.inside c.requires.there)

pub returns-after-loop-i-clause-few : goal.returns-after-loop-i-clause-few
returns-after-loop-i-clause-few t c = few_nodes c.args.x.now (term_at c.args.store.now.terms c.args.by.0) (term_at c.args.store.now.terms c.args.t.0) _ _ _ c.of_term-own.ensures.nodes c.of_term-own.ensures.few c.of_term-put.ensures.nodes c.of_term-put.ensures.few (nodes-end (λ j. term_size (img c.args.store.now c.args.x.now c.args.by.0 j)) c.as_slice-parts.result.now c.loop-i.i c.loop-i.nodes _ (omega arith) c.loop-i.invariant.nodes (size-is c.args.store.now c.args.x.now c.args.by.0 c.args.t.0 c.term.result.now c.term.result.now refl c.term.ensures.tree c.term.ensures.below c.in-App.field-0 c.in-App.field-1 c.in-App.args c.as_slice-parts.result.now c.in-App.is c.as_slice-parts.ensures c.requires.inside c.requires.there))

pub returns-after-loop-i-clause-shallow : goal.returns-after-loop-i-clause-shallow
returns-after-loop-i-clause-shallow t c = few_levels c.args.x.now (term_at c.args.store.now.terms c.args.by.0) (term_at c.args.store.now.terms c.args.t.0) _ _ _ c.of_term-own.ensures.levels c.of_term-own.ensures.shallow c.of_term-put.ensures.levels c.of_term-put.ensures.shallow (levels-end (λ j. term_depth (img c.args.store.now c.args.x.now c.args.by.0 j)) c.as_slice-parts.result.now c.loop-i.i c.loop-i.levels _ (omega arith) c.loop-i.invariant.levels (depth-is c.args.store.now c.args.x.now c.args.by.0 c.args.t.0 c.term.result.now c.term.result.now refl c.term.ensures.tree c.term.ensures.below c.in-App.field-0 c.in-App.field-1 c.in-App.args c.as_slice-parts.result.now c.in-App.is c.as_slice-parts.ensures c.requires.inside c.requires.there))

pub returns-then-lacks-clause-nodes : goal.returns-then-lacks-clause-nodes
returns-then-lacks-clause-nodes t c = c.of_term-own.ensures.nodes ∙ ap term_size (sym (term-absent c.args.x.now (term_at c.args.store.now.terms c.args.by.0) (term_at c.args.store.now.terms c.args.t.0) (c.lacks.ensures c.if-lacks.true)))

pub returns-then-lacks-clause-levels : goal.returns-then-lacks-clause-levels
returns-then-lacks-clause-levels t c = c.of_term-own.ensures.levels ∙ ap term_depth (sym (term-absent c.args.x.now (term_at c.args.store.now.terms c.args.by.0) (term_at c.args.store.now.terms c.args.t.0) (c.lacks.ensures c.if-lacks.true)))
