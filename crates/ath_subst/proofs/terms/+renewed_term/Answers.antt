use Rattle.std.proofs.Common.{sym, ◌∙◌, ap, subst, arith}
use Rattle.ath_sorts.specs.Sorts.{image, apply_to}
use Rattle.ath_terms.specs.Nodes.{term_tree}
use Rattle.ath_terms.specs.SortsIn.{IsSortedIn}
use Rattle.ath_terms.specs.Trees.{term_at}
use Rattle.ath_terms.proofs.Grow.{grows-then}
use Rattle.ath_subst.proofs.KeptLaws.{term-kept-under}
use Rattle.ath_subst.proofs.StepLaws.{images-step, app-tree, var-tree, node_has, terms-below, images-same-next, images-same, app-left}
use Rattle.ath_subst.proofs.SameLaws.{node-same, sort-stays}
use Rattle.ath_subst.proofs.terms.+renewed_term.Goals as goal

pub keep_term-requires-clause-kept : goal.keep_term-requires-clause-kept
keep_term-requires-clause-kept t c = term-kept-under (image c.args.subst.now) (term_at c.args.store.now.terms c.args.t.0) _ c.size-nodes.result c.depth-levels.result
    (var-tree c.args.store.now (image c.args.subst.now) c.term-from.result.now c.in_ok-node.node c.in-Var.v c.args.t.0 c.in_ok-node.ensures c.in-Var.is c.term-from.ensures.tree)
    c.size-nodes.ensures.same c.depth-levels.ensures.same c.size-nodes.ensures.few c.depth-levels.ensures.few

pub loop-i-preserved : goal.loop-i-preserved
loop-i-preserved t c = record {
  grows = grows-then _ _ _ c.loop-i.invariant.grows c.in_ok-part-in-App.ensures.grows;
  parts = rw c.in_ok-push-in-App.ensures.ok (images-step c.args.store.now (image c.args.subst.now) c.term-from.result.now c.in_ok-node.node c.in-App.symbol c.in-App.sorts c.in-App.args c.as_slice-ids.result.now c.args.t.0 c.in_ok-node.ensures c.in-App.is c.as_slice-ids.ensures
      c.loop-i.store c.renewed_term.new.store c.loop-i.parts c.loop-i.i (record { 0 = 0 }) c.in_ok-part-in-App.part c.term-from.ensures.below c.requires (omega arith) c.loop-i.invariant.grows c.in_ok-part-in-App.ensures.grows c.loop-i.invariant.parts c.in_ok-part-in-App.ensures.tree.0);
  sort = c.loop-i.invariant.sort;
  same = λ sig h. rw c.in_ok-push-in-App.ensures.ok (images-same-next c.args.store.now (image c.args.subst.now) c.term-from.result.now c.in_ok-node.node c.in-App.symbol c.in-App.sorts c.in-App.args c.as_slice-ids.result.now c.args.t.0 c.in_ok-node.ensures c.in-App.is c.as_slice-ids.ensures c.loop-i.store c.renewed_term.new.store c.loop-i.parts c.loop-i.i (record { 0 = 0 }) c.in_ok-part-in-App.part (omega arith) (c.loop-i.invariant.same sig h) (λ e. c.in_ok-part-in-App.ensures.same sig (subst (IsSortedIn sig) (sym e) h)));
  sorted = λ sig h ok. c.in_ok-part-in-App.ensures.sorted sig (c.loop-i.invariant.sorted sig h ok) ok;
}

pub keep_term-requires-in-App-clause-below : goal.keep_term-requires-in-App-clause-below
keep_term-requires-in-App-clause-below t c = terms-below c.loop-i.store c.loop-i.parts _ c.loop-i.invariant.parts

pub keep_term-requires-in-App-clause-kept : goal.keep_term-requires-in-App-clause-kept
keep_term-requires-in-App-clause-kept t c = term-kept-under (image c.args.subst.now) (term_at c.args.store.now.terms c.args.t.0) _ c.size-nodes.result c.depth-levels.result
    (app-tree c.args.store.now (image c.args.subst.now) c.term-from.result.now c.in_ok-node.node c.in-App.symbol c.in-App.sorts c.in-App.args c.as_slice-ids.result.now c.args.t.0 c.in_ok-node.ensures c.in-App.is c.as_slice-ids.ensures
    c.loop-i.store c.loop-i.parts c.loop-i.i c.term-from.ensures.tree (omega arith) c.loop-i.invariant.parts)
    c.size-nodes.ensures.same c.depth-levels.ensures.same c.size-nodes.ensures.few c.depth-levels.ensures.few

pub returns-in_ok-term-in-Var-clause-tree : goal.returns-in_ok-term-in-Var-clause-tree
returns-in_ok-term-in-Var-clause-tree t c =
    let r = c.in_ok-term-in-Var.ensures.tree in
    ((r.0.0, r.0.1 ∙ var-tree c.args.store.now (image c.args.subst.now) c.term-from.result.now c.in_ok-node.node c.in-Var.v c.args.t.0 c.in_ok-node.ensures c.in-Var.is c.term-from.ensures.tree), r.1 ∙ c.in_ok-sort.ensures ∙ ap (apply_to (image c.args.subst.now)) c.sort_of.ensures)

pub returns-in_ok-term-in-Var-clause-sorted : goal.returns-in_ok-term-in-Var-clause-sorted
returns-in_ok-term-in-Var-clause-sorted t c = λ sig h ok. c.in_ok-term-in-Var.ensures.sorted sig h
    (node_has sig c.args.store.now (image c.args.subst.now) c.args.t.0 _ c.in_ok-sort.sort h ok c.requires
    (var-tree c.args.store.now (image c.args.subst.now) c.term-from.result.now c.in_ok-node.node c.in-Var.v c.args.t.0 c.in_ok-node.ensures c.in-Var.is c.term-from.ensures.tree)
    (c.in_ok-sort.ensures ∙ ap (apply_to (image c.args.subst.now)) c.sort_of.ensures))

pub returns-in_ok-term-in-App-clause-tree : goal.returns-in_ok-term-in-App-clause-tree
returns-in_ok-term-in-App-clause-tree t c =
    let r = c.in_ok-term-in-App.ensures.tree in
    let tree = app-tree c.args.store.now (image c.args.subst.now) c.term-from.result.now c.in_ok-node.node c.in-App.symbol c.in-App.sorts c.in-App.args c.as_slice-ids.result.now c.args.t.0 c.in_ok-node.ensures c.in-App.is c.as_slice-ids.ensures
    c.loop-i.store c.loop-i.parts c.loop-i.i c.term-from.ensures.tree (omega arith) c.loop-i.invariant.parts in
    ((r.0.0, r.0.1 ∙ tree), r.1 ∙ c.loop-i.invariant.sort)

pub returns-in_ok-term-in-App-clause-sorted : goal.returns-in_ok-term-in-App-clause-sorted
returns-in_ok-term-in-App-clause-sorted t c = λ sig h ok. c.in_ok-term-in-App.ensures.sorted sig (c.loop-i.invariant.sorted sig h ok)
    (node_has sig c.args.store.now (image c.args.subst.now) c.args.t.0 _ _ h ok c.requires
    (app-tree c.args.store.now (image c.args.subst.now) c.term-from.result.now c.in_ok-node.node c.in-App.symbol c.in-App.sorts c.in-App.args c.as_slice-ids.result.now c.args.t.0 c.in_ok-node.ensures c.in-App.is c.as_slice-ids.ensures
    c.loop-i.store c.loop-i.parts c.loop-i.i c.term-from.ensures.tree (omega arith) c.loop-i.invariant.parts)
    c.loop-i.invariant.sort)

pub keep_term-requires-clause-left : goal.keep_term-requires-clause-left
keep_term-requires-clause-left t c = λ h.
    let w = c.are_one-stays.ensures.0 h in
    ((c.requires, sym c.term-from.ensures.tree ∙ ap (term_tree c.args.store.now.terms) (w.0 ∙ c.in-Var.is)), sym c.sort_of-2.ensures ∙ w.1)

pub keep_term-requires-in-App-clause-left : goal.keep_term-requires-in-App-clause-left
keep_term-requires-in-App-clause-left t c = λ h.
    let b = c.all_stay-is_left.ensures.0 h in
    let w = c.are_one-stays.ensures.0 b.0 in
    app-left c.args.store.now (image c.args.subst.now) c.term-from.result.now c.in_ok-node.node c.in-App.symbol c.in-App.sorts c.in-App.args c.as_slice-ids.result.now c.args.t.0 c.in_ok-node.ensures c.in-App.is c.as_slice-ids.ensures c.loop-i.store c.loop-i.parts _ c.loop-i.invariant.grows c.requires c.term-from.ensures.below c.term-from.ensures.tree (c.loop-i.invariant.sort ∙ ap (apply_to (image c.args.subst.now)) (sym c.sort_of.ensures) ∙ sym c.in_ok-sort.ensures ∙ sym w.1 ∙ c.sort_of-2.ensures) w.0 (b.1 ∙ c.as_slice.ensures)

pub returns-in_ok-term-in-Var-clause-same : goal.returns-in_ok-term-in-Var-clause-same
returns-in_ok-term-in-Var-clause-same t c = λ sig h left.
    let o = node-same c.args.store.now (image c.args.subst.now) c.term-from.result.now c.in_ok-node.node c.args.t.0 c.in_ok-node.ensures c.term-from.ensures.tree left in
    let s = sort-stays c.args.store.now (image c.args.subst.now) c.term-from.result.now c.in_ok-node.node c.args.t.0 c.in_ok-node.ensures c.term-from.ensures.tree left sig h c.requires in
    let q = c.sort_of-2.ensures ∙ sym s ∙ sym (c.in_ok-sort.ensures ∙ ap (apply_to (image c.args.subst.now)) c.sort_of.ensures) in
    c.in_ok-term-in-Var.ensures.same (c.are_one-stays.ensures.1 (o, q))

pub returns-in_ok-term-in-App-clause-same : goal.returns-in_ok-term-in-App-clause-same
returns-in_ok-term-in-App-clause-same t c = λ sig h left.
    let a = images-same c.args.store.now (image c.args.subst.now) c.term-from.result.now c.in_ok-node.node c.in-App.symbol c.in-App.sorts c.in-App.args c.as_slice-ids.result.now c.args.t.0 c.in_ok-node.ensures c.in-App.is c.as_slice-ids.ensures c.loop-i.store c.loop-i.parts c.loop-i.i (record { 0 = 0 }) (omega arith) (c.loop-i.invariant.same sig h) c.term-from.ensures.tree left in
    let o = node-same c.args.store.now (image c.args.subst.now) c.term-from.result.now c.in_ok-node.node c.args.t.0 c.in_ok-node.ensures c.term-from.ensures.tree left in
    let s = sort-stays c.args.store.now (image c.args.subst.now) c.term-from.result.now c.in_ok-node.node c.args.t.0 c.in_ok-node.ensures c.term-from.ensures.tree left sig h c.requires in
    let q = c.sort_of-2.ensures ∙ sym s ∙ sym (c.in_ok-sort.ensures ∙ ap (apply_to (image c.args.subst.now)) c.sort_of.ensures) in
    let r = c.in_ok-term-in-App.ensures.same (c.all_stay-is_left.ensures.1 (c.are_one-stays.ensures.1 (o, q), sym a.0 ∙ sym c.as_slice.ensures)) in
    (r.0, r.1 ∙ a.1)
