use Rattle.std.proofs.Common.{◌+◌, List, map, sym, ◌∙◌, ap, arith}
use Rattle.ath_trees.specs.Measure.{terms_size, terms_depth}
use Rattle.ath_trees.specs.Tree.{listed}
use Rattle.ath_trees.specs.declared.node.TermId.{TermId}
use Rattle.ath_terms.specs.Trees.{term_at}
use Rattle.ath_terms.proofs.Grow.{grows-then}
use Rattle.ath_trees.proofs.Renaming.{term-absent}
use Rattle.ath_subst.proofs.StepLaws.{terms-below}
use Rattle.ath_subst.proofs.PuttingLaws.{part-below, part-small, parts-few, put-kept, put-step, put-tree, put-has, put-same-next, put-same, put-left}
use Rattle.ath_subst.proofs.putting.+put_term.Goals as goal

pub put_term-requires : goal.put_term-requires
put_term-requires t c =
    let b = part-below c.args.store.now c.args.x.now c.args.by.0 c.args.t.0 c.term.result.now c.in_ok-node.node c.in_ok-node.ensures c.term.ensures.tree c.term.ensures.below c.in-App.f c.in-App.sorts c.in-App.args c.as_slice-ids.result.now c.in-App.is c.as_slice-ids.ensures c.requires.inside c.requires.there c.loop-i.i (record { 0 = 0 }) (omega arith) in
    let s = part-small c.args.store.now c.args.x.now c.args.by.0 c.args.t.0 c.term.result.now c.in_ok-node.node c.in_ok-node.ensures c.term.ensures.tree c.term.ensures.below c.in-App.f c.in-App.sorts c.in-App.args c.as_slice-ids.result.now c.in-App.is c.as_slice-ids.ensures c.requires.inside c.requires.there
    c.requires.small c.loop-i.store c.loop-i.i (record { 0 = 0 }) (omega arith) c.loop-i.invariant.grows in
    let g = c.loop-i.invariant.grows in
    let inside = c.requires.inside in
    let there = c.requires.there in
    (omega (arith, c.decreases), (omega (arith, g.terms), (omega (arith, g.terms), s)))

pub loop-i-preserved : goal.loop-i-preserved
loop-i-preserved t c = record {
  grows = grows-then _ _ _ c.loop-i.invariant.grows c.in_ok-part-in-App.ensures.grows;
  parts = rw c.in_ok-push-in-App.ensures.ok (put-step c.args.store.now c.args.x.now c.args.by.0 c.args.t.0 c.term.result.now c.in_ok-node.node c.in_ok-node.ensures c.term.ensures.tree c.term.ensures.below c.in-App.f c.in-App.sorts c.in-App.args c.as_slice-ids.result.now c.in-App.is c.as_slice-ids.ensures c.requires.inside c.requires.there
      c.loop-i.store c.put_term.new.store c.loop-i.parts c.loop-i.i (record { 0 = 0 }) c.in_ok-part-in-App.part (omega arith) c.loop-i.invariant.grows c.in_ok-part-in-App.ensures.grows c.loop-i.invariant.parts c.in_ok-part-in-App.ensures.tree);
  same = rw c.in_ok-push-in-App.ensures.ok (put-same-next c.args.store.now c.args.x.now c.args.by.0 c.args.t.0 c.term.result.now c.in_ok-node.node c.in_ok-node.ensures c.term.ensures.tree c.term.ensures.below c.in-App.f c.in-App.sorts c.in-App.args c.as_slice-ids.result.now c.in-App.is c.as_slice-ids.ensures c.requires.inside c.requires.there c.loop-i.store c.put_term.new.store c.loop-i.parts c.loop-i.i (record { 0 = 0 }) c.in_ok-part-in-App.part (omega arith) c.loop-i.invariant.same c.in_ok-part-in-App.ensures.same);
  sorted = λ sig h fits. c.in_ok-part-in-App.ensures.sorted sig (c.loop-i.invariant.sorted sig h fits) (c.loop-i.invariant.grows.same_sorts c.args.by.0 c.requires.there ∙ fits);
}

pub list_size-nodes-requires-clause-few : goal.list_size-nodes-requires-clause-few
list_size-nodes-requires-clause-few t c =
    let k = parts-few c.args.store.now c.args.x.now c.args.by.0 c.args.t.0 c.term.result.now c.in_ok-node.node c.in_ok-node.ensures c.term.ensures.tree c.term.ensures.below c.in-App.f c.in-App.sorts c.in-App.args c.as_slice-ids.result.now c.in-App.is c.as_slice-ids.ensures c.requires.inside c.requires.there
    c.requires.small c.loop-i.store c.loop-i.parts c.loop-i.i (omega arith) c.loop-i.invariant.parts in
    rw c.as_slice.ensures (omega arith)

pub list_size-nodes-requires-clause-inside : goal.list_size-nodes-requires-clause-inside
list_size-nodes-requires-clause-inside t c = rw c.as_slice.ensures (terms-below c.loop-i.store c.loop-i.parts _ c.loop-i.invariant.parts)

pub list_depth-levels-requires : goal.list_depth-levels-requires
list_depth-levels-requires t c = rw c.as_slice-in-App.ensures (terms-below c.loop-i.store c.loop-i.parts _ c.loop-i.invariant.parts)

pub keep_term-requires-clause-below : goal.keep_term-requires-clause-below
keep_term-requires-clause-below t c = terms-below c.loop-i.store c.loop-i.parts _ c.loop-i.invariant.parts

pub keep_term-requires-clause-kept : goal.keep_term-requires-clause-kept
keep_term-requires-clause-kept t c = put-kept c.args.store.now c.args.x.now c.args.by.0 c.args.t.0 c.term.result.now c.in_ok-node.node c.in_ok-node.ensures c.term.ensures.tree c.term.ensures.below c.in-App.f c.in-App.sorts c.in-App.args c.as_slice-ids.result.now c.in-App.is c.as_slice-ids.ensures c.requires.inside c.requires.there
    c.requires.small c.loop-i.store c.loop-i.parts c.loop-i.i _ _ (omega arith) c.loop-i.invariant.parts
    (ap (λ k. 1 + k) (c.list_size-nodes.ensures.same ∙ ap (λ (l : List TermId). terms_size (listed (map (λ j. term_at c.loop-i.store.terms j.0) l))) c.as_slice.ensures))
    (ap (λ k. 1 + k) (c.list_depth-levels.ensures.same ∙ ap (λ (l : List TermId). terms_depth (listed (map (λ j. term_at c.loop-i.store.terms j.0) l))) c.as_slice-in-App.ensures))

pub returns-in_ok-term-in-App-clause-tree : goal.returns-in_ok-term-in-App-clause-tree
returns-in_ok-term-in-App-clause-tree t c = let r = c.in_ok-term-in-App.ensures.tree in (
  r.0.0,
  r.0.1 ∙ put-tree c.args.store.now c.args.x.now c.args.by.0 c.args.t.0 c.term.result.now c.in_ok-node.node c.in_ok-node.ensures c.term.ensures.tree c.term.ensures.below c.in-App.f c.in-App.sorts c.in-App.args c.as_slice-ids.result.now c.in-App.is c.as_slice-ids.ensures c.requires.inside c.requires.there
      c.loop-i.store c.loop-i.parts c.loop-i.i (omega arith) c.loop-i.invariant.parts,
)

pub returns-in_ok-term-in-App-clause-sorted : goal.returns-in_ok-term-in-App-clause-sorted
returns-in_ok-term-in-App-clause-sorted t c = λ sig h fits. c.in_ok-term-in-App.ensures.sorted sig (c.loop-i.invariant.sorted sig h fits)
    (put-has sig c.args.store.now c.args.x.now c.args.by.0 c.args.t.0 _ _ h c.requires.there c.requires.inside fits
    (put-tree c.args.store.now c.args.x.now c.args.by.0 c.args.t.0 c.term.result.now c.in_ok-node.node c.in_ok-node.ensures c.term.ensures.tree c.term.ensures.below c.in-App.f c.in-App.sorts c.in-App.args c.as_slice-ids.result.now c.in-App.is c.as_slice-ids.ensures c.requires.inside c.requires.there
    c.loop-i.store c.loop-i.parts c.loop-i.i (omega arith) c.loop-i.invariant.parts)
    (c.in_ok-sort-in-App.ensures ∙ c.sort_of.ensures ∙ c.loop-i.invariant.grows.same_sorts c.args.t.0 c.requires.inside))

pub returns-then-lacks-clause-tree : goal.returns-then-lacks-clause-tree
returns-then-lacks-clause-tree t c = (c.requires.inside, sym (term-absent c.args.x.now (term_at c.args.store.now.terms c.args.by.0) (term_at c.args.store.now.terms c.args.t.0) (c.lacks.ensures c.if-lacks.true)))

pub keep_term-requires-clause-left : goal.keep_term-requires-clause-left
keep_term-requires-clause-left t c = λ h. put-left c.args.store.now c.args.x.now c.args.by.0 c.args.t.0 c.term.result.now c.in_ok-node.node c.in_ok-node.ensures c.term.ensures.tree c.term.ensures.below c.in-App.f c.in-App.sorts c.in-App.args c.as_slice-ids.result.now c.in-App.is c.as_slice-ids.ensures c.requires.inside c.requires.there c.loop-i.store c.loop-i.parts c.in_ok-sort-in-App.sort c.loop-i.invariant.grows (c.in_ok-sort-in-App.ensures ∙ c.sort_of.ensures) (c.are_same_terms-is_left.ensures.0 h ∙ c.as_slice-in-App-2.ensures)

pub returns-in_ok-term-in-App-clause-same : goal.returns-in_ok-term-in-App-clause-same
returns-in_ok-term-in-App-clause-same t c = λ left.
    let a = put-same c.args.store.now c.args.x.now c.args.by.0 c.args.t.0 c.term.result.now c.in_ok-node.node c.in_ok-node.ensures c.term.ensures.tree c.term.ensures.below c.in-App.f c.in-App.sorts c.in-App.args c.as_slice-ids.result.now c.in-App.is c.as_slice-ids.ensures c.requires.inside c.requires.there c.loop-i.store c.loop-i.parts c.loop-i.i (record { 0 = 0 }) (omega arith) c.loop-i.invariant.same left in
    let r = c.in_ok-term-in-App.ensures.same (c.are_same_terms-is_left.ensures.1 (sym a.0 ∙ sym c.as_slice-in-App-2.ensures)) in
    (r.0, r.1 ∙ a.1)
