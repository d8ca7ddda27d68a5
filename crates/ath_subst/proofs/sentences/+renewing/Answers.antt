use Rattle.std.proofs.Common.{◌≡◌, ap, subst, ◌∙◌, sym, arith, refl}
use Rattle.ath_sorts.specs.Sorts.{image}
use Rattle.ath_trees.specs.SortUnder.{sent_at_sorts}
use Rattle.ath_trees.specs.Under.{term_under}
use Rattle.ath_trees.proofs.BinderLaws.{at_sorts-left}
use Rattle.ath_trees.proofs.Sorting.{at_sorts-sorted}
use Rattle.ath_terms.specs.Trees.{Trees, term_at, sent_at}
use Rattle.ath_terms.proofs.Grow.{grows-then, sent_node-kept}
use Rattle.ath_subst.proofs.BinderLaws.{body-falls, bound-tree, bound-valid, unmet-binder}
use Rattle.ath_terms.specs.declared.node.SentNode.TheVariants as node
use Rattle.ath_subst.proofs.SameSents.{atom-stays, equation-stays, conn-same-next, conn-same, bound-stays}
use Rattle.ath_trees.specs.declared.node.Var.{Var}
use Rattle.ath_terms.specs.SortsIn.{IsSortedIn}
use Rattle.ath_trees.specs.Under.{var_under}
use Rattle.ath_subst.proofs.SentLaws.{sorts-map, sorts-keep, kept-by, sorted-by, conn_node, bound_node, atom_node, equation_node, atom-tree, equation-tree, conn_part-deep, conn_part-inside, conn-step, conn-tree, conn-below}
use Rattle.ath_subst.proofs.sentences.+renewing.Goals as goal

pub renewed_node-keep_sent-requires-clause-kept : goal.renewed_node-keep_sent-requires-clause-kept
renewed_node-keep_sent-requires-clause-kept t c = kept-by (sent_at_sorts (image c.args.subst.now)) (sorts-keep (image c.args.subst.now)) (sent_at c.args.store.now.sents c.args.p.0) _ c.sent_size-nodes.result c.sent_depth-levels.result
    (atom-tree (sent_at_sorts (image c.args.subst.now)) (term_under (image c.args.subst.now)) (sorts-map (image c.args.subst.now)) c.args.store.now c.args.p.0 c.term_under.new.store _ c.in-Atom.t c.in_ok-term-in-Atom.term (atom_node c.args.store.now c.args.node.now c.args.node.now c.args.p.0 _ refl c.requires.tree c.requires.below c.in-Atom.t c.in-Atom.is) c.in_ok-term-in-Atom.ensures.tree.0)
    c.sent_size-nodes.ensures.same c.sent_depth-levels.ensures.same c.sent_size-nodes.ensures.few c.sent_depth-levels.ensures.few

pub renewed_node-keep_sent-requires-in-Eq-clause-kept : goal.renewed_node-keep_sent-requires-in-Eq-clause-kept
renewed_node-keep_sent-requires-in-Eq-clause-kept t c = kept-by (sent_at_sorts (image c.args.subst.now)) (sorts-keep (image c.args.subst.now)) (sent_at c.args.store.now.sents c.args.p.0) _ c.sent_size-nodes.result c.sent_depth-levels.result
    (equation-tree (sent_at_sorts (image c.args.subst.now)) (term_under (image c.args.subst.now)) (sorts-map (image c.args.subst.now)) c.args.store.now c.args.p.0 c.term_under-in-Eq.new.store c.term_under-in-Eq-2.new.store c.in-Eq.s c.in-Eq.t c.in_ok-left-in-Eq.left c.in_ok-right-in-Eq.right (equation_node c.args.store.now c.args.node.now c.args.node.now c.args.p.0 _ refl c.requires.tree c.requires.below c.in-Eq.s c.in-Eq.t c.in-Eq.is)
    c.in_ok-left-in-Eq.ensures.grows c.in_ok-right-in-Eq.ensures.grows c.in_ok-left-in-Eq.ensures.tree.0 c.in_ok-right-in-Eq.ensures.tree.0)
    c.sent_size-nodes.ensures.same c.sent_depth-levels.ensures.same c.sent_size-nodes.ensures.few c.sent_depth-levels.ensures.few

pub renewed_node-loop-i-preserved : goal.renewed_node-loop-i-preserved
renewed_node-loop-i-preserved t c = record {
  grows = grows-then _ _ _ c.loop-i.invariant.grows c.in_ok-part-in-Conn.ensures.grows;
  parts = rw c.in_ok-push-in-Conn.ensures.ok (conn-step (sent_at_sorts (image c.args.subst.now)) (term_under (image c.args.subst.now)) (sorts-map (image c.args.subst.now)) c.args.store.now c.args.p.0 c.in-Conn.c c.in-Conn.ids c.as_slice-from.result.now (conn_node c.args.store.now c.args.node.now c.args.node.now c.args.p.0 _ refl c.requires.tree c.requires.below c.in-Conn.c c.in-Conn.ids c.in-Conn.is) c.as_slice-from.ensures
      c.loop-i.store c.renewed_sent.new.store c.loop-i.parts c.loop-i.i (record { 0 = 0 }) c.in_ok-part-in-Conn.part c.requires.inside (omega arith) c.loop-i.invariant.grows c.in_ok-part-in-Conn.ensures.grows c.loop-i.invariant.parts c.in_ok-part-in-Conn.ensures.tree);
  same = λ sig h. rw c.in_ok-push-in-Conn.ensures.ok (conn-same-next (sent_at_sorts (image c.args.subst.now)) (term_under (image c.args.subst.now)) (sorts-map (image c.args.subst.now)) c.args.store.now c.args.p.0 c.in-Conn.c c.in-Conn.ids c.as_slice-from.result.now (conn_node c.args.store.now c.args.node.now c.args.node.now c.args.p.0 _ refl c.requires.tree c.requires.below c.in-Conn.c c.in-Conn.ids c.in-Conn.is) c.as_slice-from.ensures c.loop-i.store c.renewed_sent.new.store c.loop-i.parts c.loop-i.i (record { 0 = 0 }) c.in_ok-part-in-Conn.part (omega arith) (c.loop-i.invariant.same sig h) (λ e. c.in_ok-part-in-Conn.ensures.same sig (subst (IsSortedIn sig) (sym e) h)));
  sorted = λ sig h ok. c.in_ok-part-in-Conn.ensures.sorted sig (c.loop-i.invariant.sorted sig h ok) ok;
}

pub renewed_node-renewed_sent-requires : goal.renewed_node-renewed_sent-requires
renewed_node-renewed_sent-requires t c =
    let d = conn_part-deep (sent_at_sorts (image c.args.subst.now)) (term_under (image c.args.subst.now)) (sorts-map (image c.args.subst.now)) c.args.store.now c.args.p.0 c.in-Conn.c c.in-Conn.ids c.as_slice-from.result.now (conn_node c.args.store.now c.args.node.now c.args.node.now c.args.p.0 _ refl c.requires.tree c.requires.below c.in-Conn.c c.in-Conn.ids c.in-Conn.is) c.as_slice-from.ensures c.loop-i.store c.loop-i.i (record { 0 = 0 }) c.requires.inside (omega arith) c.loop-i.invariant.grows in
    let b = conn_part-inside (sent_at_sorts (image c.args.subst.now)) (term_under (image c.args.subst.now)) (sorts-map (image c.args.subst.now)) c.args.store.now c.args.p.0 c.in-Conn.c c.in-Conn.ids c.as_slice-from.result.now (conn_node c.args.store.now c.args.node.now c.args.node.now c.args.p.0 _ refl c.requires.tree c.requires.below c.in-Conn.c c.in-Conn.ids c.in-Conn.is) c.as_slice-from.ensures c.loop-i.i (record { 0 = 0 }) (omega arith) in
    let g = c.loop-i.invariant.grows.sents in
    let inside = c.requires.inside in
    (omega (arith, c.decreases), omega arith)

pub renewed_node-keep_sent-requires-in-Conn-clause-below : goal.renewed_node-keep_sent-requires-in-Conn-clause-below
renewed_node-keep_sent-requires-in-Conn-clause-below t c = conn-below (sent_at_sorts (image c.args.subst.now)) (term_under (image c.args.subst.now)) (sorts-map (image c.args.subst.now)) c.args.store.now c.args.p.0 c.in-Conn.c c.in-Conn.ids c.as_slice-from.result.now (conn_node c.args.store.now c.args.node.now c.args.node.now c.args.p.0 _ refl c.requires.tree c.requires.below c.in-Conn.c c.in-Conn.ids c.in-Conn.is) c.as_slice-from.ensures c.loop-i.store c.loop-i.parts c.loop-i.i (omega arith) c.loop-i.invariant.parts

pub renewed_node-keep_sent-requires-in-Conn-clause-kept : goal.renewed_node-keep_sent-requires-in-Conn-clause-kept
renewed_node-keep_sent-requires-in-Conn-clause-kept t c = kept-by (sent_at_sorts (image c.args.subst.now)) (sorts-keep (image c.args.subst.now)) (sent_at c.args.store.now.sents c.args.p.0) _ c.sent_size-nodes.result c.sent_depth-levels.result
    (conn-tree (sent_at_sorts (image c.args.subst.now)) (term_under (image c.args.subst.now)) (sorts-map (image c.args.subst.now)) c.args.store.now c.args.p.0 c.in-Conn.c c.in-Conn.ids c.as_slice-from.result.now (conn_node c.args.store.now c.args.node.now c.args.node.now c.args.p.0 _ refl c.requires.tree c.requires.below c.in-Conn.c c.in-Conn.ids c.in-Conn.is) c.as_slice-from.ensures c.loop-i.store c.loop-i.parts c.loop-i.i (omega arith) c.loop-i.invariant.parts)
    c.sent_size-nodes.ensures.same c.sent_depth-levels.ensures.same c.sent_size-nodes.ensures.few c.sent_depth-levels.ensures.few

pub renewed_node-renewed_sent-requires-in-Quant : goal.renewed_node-renewed_sent-requires-in-Quant
renewed_node-renewed_sent-requires-in-Quant t c =
    let d = body-falls (image c.args.subst.now) c.args.store.now c.args.p.0 c.in-Quant.k c.in_ok-own-in-Quant.own c.in-Quant.body (bound_node c.args.store.now c.args.node.now c.args.node.now c.args.p.0 _ refl c.requires.tree c.requires.below c.in-Quant.k c.in_ok-own-in-Quant.own c.in-Quant.body (c.in-Quant.is ∙ ap (λ (w : Var). node.Quant c.in-Quant.k w c.in-Quant.body) (sym c.in_ok-own-in-Quant.ensures))) c.free_binder.new.store c.in_ok-binder-in-Quant.binder.body.0 c.in_ok-binder-in-Quant.ensures.body in
    (omega (arith, c.decreases), c.in_ok-binder-in-Quant.ensures.body.0)

pub renewed_node-keep_sent-requires-in-Quant-clause-kept : goal.renewed_node-keep_sent-requires-in-Quant-clause-kept
renewed_node-keep_sent-requires-in-Quant-clause-kept t c = kept-by (sent_at_sorts (image c.args.subst.now)) (sorts-keep (image c.args.subst.now)) (sent_at c.args.store.now.sents c.args.p.0) _ c.sent_size-nodes.result c.sent_depth-levels.result
    (bound-tree (image c.args.subst.now) c.args.store.now c.args.p.0 c.in-Quant.k c.in_ok-own-in-Quant.own c.in-Quant.body (bound_node c.args.store.now c.args.node.now c.args.node.now c.args.p.0 _ refl c.requires.tree c.requires.below c.in-Quant.k c.in_ok-own-in-Quant.own c.in-Quant.body (c.in-Quant.is ∙ ap (λ (w : Var). node.Quant c.in-Quant.k w c.in-Quant.body) (sym c.in_ok-own-in-Quant.ensures))) c.free_binder.new.store c.renewed_sent-in-Quant.new.store c.in_ok-binder-in-Quant.binder.variable c.in_ok-variable-in-Quant.variable c.in_ok-binder-in-Quant.binder.body.0 c.in_ok-inner-in-Quant.inner.0 c.in_ok-binder-in-Quant.ensures.variable c.in_ok-binder-in-Quant.ensures.body c.in_ok-variable-in-Quant.ensures c.in_ok-inner-in-Quant.ensures.tree)
    c.sent_size-nodes.ensures.same c.sent_depth-levels.ensures.same c.sent_size-nodes.ensures.few c.sent_depth-levels.ensures.few

pub renewed_node-returns-in_ok-sent-in-Atom-clause-tree : goal.renewed_node-returns-in_ok-sent-in-Atom-clause-tree
renewed_node-returns-in_ok-sent-in-Atom-clause-tree t c = let r = c.in_ok-sent-in-Atom.ensures.tree in (r.0, r.1 ∙ (atom-tree (sent_at_sorts (image c.args.subst.now)) (term_under (image c.args.subst.now)) (sorts-map (image c.args.subst.now)) c.args.store.now c.args.p.0 c.term_under.new.store _ c.in-Atom.t c.in_ok-term-in-Atom.term (atom_node c.args.store.now c.args.node.now c.args.node.now c.args.p.0 _ refl c.requires.tree c.requires.below c.in-Atom.t c.in-Atom.is) c.in_ok-term-in-Atom.ensures.tree.0))

pub renewed_node-returns-in_ok-sent-in-Atom-clause-sorted : goal.renewed_node-returns-in_ok-sent-in-Atom-clause-sorted
renewed_node-returns-in_ok-sent-in-Atom-clause-sorted t c = λ sig h ok. c.in_ok-sent-in-Atom.ensures.sorted sig (c.in_ok-term-in-Atom.ensures.sorted sig h ok)
    (sorted-by sig _ _ (atom-tree (sent_at_sorts (image c.args.subst.now)) (term_under (image c.args.subst.now)) (sorts-map (image c.args.subst.now)) c.args.store.now c.args.p.0 c.term_under.new.store _ c.in-Atom.t c.in_ok-term-in-Atom.term (atom_node c.args.store.now c.args.node.now c.args.node.now c.args.p.0 _ refl c.requires.tree c.requires.below c.in-Atom.t c.in-Atom.is) c.in_ok-term-in-Atom.ensures.tree.0)
    (at_sorts-sorted sig h.valid (image c.args.subst.now) ok (sent_at c.args.store.now.sents c.args.p.0) (h.sents c.args.p.0 c.requires.inside)))

pub renewed_node-returns-in_ok-sent-in-Eq-clause-tree : goal.renewed_node-returns-in_ok-sent-in-Eq-clause-tree
renewed_node-returns-in_ok-sent-in-Eq-clause-tree t c = let r = c.in_ok-sent-in-Eq.ensures.tree in (
  r.0,
  r.1 ∙ (equation-tree (sent_at_sorts (image c.args.subst.now)) (term_under (image c.args.subst.now)) (sorts-map (image c.args.subst.now)) c.args.store.now c.args.p.0 c.term_under-in-Eq.new.store c.term_under-in-Eq-2.new.store c.in-Eq.s c.in-Eq.t c.in_ok-left-in-Eq.left c.in_ok-right-in-Eq.right (equation_node c.args.store.now c.args.node.now c.args.node.now c.args.p.0 _ refl c.requires.tree c.requires.below c.in-Eq.s c.in-Eq.t c.in-Eq.is)
      c.in_ok-left-in-Eq.ensures.grows c.in_ok-right-in-Eq.ensures.grows c.in_ok-left-in-Eq.ensures.tree.0 c.in_ok-right-in-Eq.ensures.tree.0),
)

pub renewed_node-returns-in_ok-sent-in-Eq-clause-sorted : goal.renewed_node-returns-in_ok-sent-in-Eq-clause-sorted
renewed_node-returns-in_ok-sent-in-Eq-clause-sorted t c = λ sig h ok. c.in_ok-sent-in-Eq.ensures.sorted sig (c.in_ok-right-in-Eq.ensures.sorted sig (c.in_ok-left-in-Eq.ensures.sorted sig h ok) ok)
    (sorted-by sig _ _ (equation-tree (sent_at_sorts (image c.args.subst.now)) (term_under (image c.args.subst.now)) (sorts-map (image c.args.subst.now)) c.args.store.now c.args.p.0 c.term_under-in-Eq.new.store c.term_under-in-Eq-2.new.store c.in-Eq.s c.in-Eq.t c.in_ok-left-in-Eq.left c.in_ok-right-in-Eq.right (equation_node c.args.store.now c.args.node.now c.args.node.now c.args.p.0 _ refl c.requires.tree c.requires.below c.in-Eq.s c.in-Eq.t c.in-Eq.is)
    c.in_ok-left-in-Eq.ensures.grows c.in_ok-right-in-Eq.ensures.grows c.in_ok-left-in-Eq.ensures.tree.0 c.in_ok-right-in-Eq.ensures.tree.0)
    (at_sorts-sorted sig h.valid (image c.args.subst.now) ok (sent_at c.args.store.now.sents c.args.p.0) (h.sents c.args.p.0 c.requires.inside)))

pub renewed_node-returns-in_ok-sent-in-Conn-clause-tree : goal.renewed_node-returns-in_ok-sent-in-Conn-clause-tree
renewed_node-returns-in_ok-sent-in-Conn-clause-tree t c = let r = c.in_ok-sent-in-Conn.ensures.tree in (r.0, r.1 ∙ (conn-tree (sent_at_sorts (image c.args.subst.now)) (term_under (image c.args.subst.now)) (sorts-map (image c.args.subst.now)) c.args.store.now c.args.p.0 c.in-Conn.c c.in-Conn.ids c.as_slice-from.result.now (conn_node c.args.store.now c.args.node.now c.args.node.now c.args.p.0 _ refl c.requires.tree c.requires.below c.in-Conn.c c.in-Conn.ids c.in-Conn.is) c.as_slice-from.ensures c.loop-i.store c.loop-i.parts c.loop-i.i (omega arith) c.loop-i.invariant.parts))

pub renewed_node-returns-in_ok-sent-in-Conn-clause-sorted : goal.renewed_node-returns-in_ok-sent-in-Conn-clause-sorted
renewed_node-returns-in_ok-sent-in-Conn-clause-sorted t c = λ sig h ok. c.in_ok-sent-in-Conn.ensures.sorted sig (c.loop-i.invariant.sorted sig h ok)
    (sorted-by sig _ _ (conn-tree (sent_at_sorts (image c.args.subst.now)) (term_under (image c.args.subst.now)) (sorts-map (image c.args.subst.now)) c.args.store.now c.args.p.0 c.in-Conn.c c.in-Conn.ids c.as_slice-from.result.now (conn_node c.args.store.now c.args.node.now c.args.node.now c.args.p.0 _ refl c.requires.tree c.requires.below c.in-Conn.c c.in-Conn.ids c.in-Conn.is) c.as_slice-from.ensures c.loop-i.store c.loop-i.parts c.loop-i.i (omega arith) c.loop-i.invariant.parts)
    (at_sorts-sorted sig h.valid (image c.args.subst.now) ok (sent_at c.args.store.now.sents c.args.p.0) (h.sents c.args.p.0 c.requires.inside)))

pub renewed_node-returns-in_ok-sent-in-Quant-clause-tree : goal.renewed_node-returns-in_ok-sent-in-Quant-clause-tree
renewed_node-returns-in_ok-sent-in-Quant-clause-tree t c = let r = c.in_ok-sent-in-Quant.ensures.tree in (r.0, r.1 ∙ (bound-tree (image c.args.subst.now) c.args.store.now c.args.p.0 c.in-Quant.k c.in_ok-own-in-Quant.own c.in-Quant.body (bound_node c.args.store.now c.args.node.now c.args.node.now c.args.p.0 _ refl c.requires.tree c.requires.below c.in-Quant.k c.in_ok-own-in-Quant.own c.in-Quant.body (c.in-Quant.is ∙ ap (λ (w : Var). node.Quant c.in-Quant.k w c.in-Quant.body) (sym c.in_ok-own-in-Quant.ensures))) c.free_binder.new.store c.renewed_sent-in-Quant.new.store c.in_ok-binder-in-Quant.binder.variable c.in_ok-variable-in-Quant.variable c.in_ok-binder-in-Quant.binder.body.0 c.in_ok-inner-in-Quant.inner.0 c.in_ok-binder-in-Quant.ensures.variable c.in_ok-binder-in-Quant.ensures.body c.in_ok-variable-in-Quant.ensures c.in_ok-inner-in-Quant.ensures.tree))

pub renewed_node-returns-in_ok-sent-in-Quant-clause-sorted : goal.renewed_node-returns-in_ok-sent-in-Quant-clause-sorted
renewed_node-returns-in_ok-sent-in-Quant-clause-sorted t c = λ sig h ok. c.in_ok-sent-in-Quant.ensures.sorted sig (c.in_ok-inner-in-Quant.ensures.sorted sig (c.in_ok-binder-in-Quant.ensures.sorted sig h (bound-valid sig c.args.store.now c.args.p.0 c.in-Quant.k c.in_ok-own-in-Quant.own c.in-Quant.body (bound_node c.args.store.now c.args.node.now c.args.node.now c.args.p.0 _ refl c.requires.tree c.requires.below c.in-Quant.k c.in_ok-own-in-Quant.own c.in-Quant.body (c.in-Quant.is ∙ ap (λ (w : Var). node.Quant c.in-Quant.k w c.in-Quant.body) (sym c.in_ok-own-in-Quant.ensures))) (h.sents c.args.p.0 c.requires.inside))) ok)
    (sorted-by sig _ _ (bound-tree (image c.args.subst.now) c.args.store.now c.args.p.0 c.in-Quant.k c.in_ok-own-in-Quant.own c.in-Quant.body (bound_node c.args.store.now c.args.node.now c.args.node.now c.args.p.0 _ refl c.requires.tree c.requires.below c.in-Quant.k c.in_ok-own-in-Quant.own c.in-Quant.body (c.in-Quant.is ∙ ap (λ (w : Var). node.Quant c.in-Quant.k w c.in-Quant.body) (sym c.in_ok-own-in-Quant.ensures))) c.free_binder.new.store c.renewed_sent-in-Quant.new.store c.in_ok-binder-in-Quant.binder.variable c.in_ok-variable-in-Quant.variable c.in_ok-binder-in-Quant.binder.body.0 c.in_ok-inner-in-Quant.inner.0 c.in_ok-binder-in-Quant.ensures.variable c.in_ok-binder-in-Quant.ensures.body c.in_ok-variable-in-Quant.ensures c.in_ok-inner-in-Quant.ensures.tree)
    (at_sorts-sorted sig h.valid (image c.args.subst.now) ok (sent_at c.args.store.now.sents c.args.p.0) (h.sents c.args.p.0 c.requires.inside)))

pub renewed_sent-returns-then-keeps_sent-clause-tree : goal.renewed_sent-returns-then-keeps_sent-clause-tree
renewed_sent-returns-then-keeps_sent-clause-tree t c = (c.requires, sym (at_sorts-left (image c.args.subst.now) (sent_at c.args.store.now.sents c.args.p.0) (c.keeps_sent.ensures c.if-keeps_sent.true)))

pub renewed_node-keep_sent-requires-clause-from : goal.renewed_node-keep_sent-requires-clause-from
renewed_node-keep_sent-requires-clause-from t c = (sent_node-kept c.args.store.now _ c.args.p.0 c.args.node.now c.in_ok-term-in-Atom.ensures.grows c.requires.inside c.requires.below c.requires.tree)

pub renewed_node-keep_sent-requires-in-Eq-clause-from : goal.renewed_node-keep_sent-requires-in-Eq-clause-from
renewed_node-keep_sent-requires-in-Eq-clause-from t c = (sent_node-kept c.args.store.now _ c.args.p.0 c.args.node.now (grows-then _ _ _ c.in_ok-left-in-Eq.ensures.grows c.in_ok-right-in-Eq.ensures.grows) c.requires.inside c.requires.below c.requires.tree)

pub renewed_node-keep_sent-requires-in-Conn-clause-from : goal.renewed_node-keep_sent-requires-in-Conn-clause-from
renewed_node-keep_sent-requires-in-Conn-clause-from t c = (sent_node-kept c.args.store.now _ c.args.p.0 c.args.node.now c.loop-i.invariant.grows c.requires.inside c.requires.below c.requires.tree)

pub renewed_node-keep_sent-requires-in-Quant-clause-from : goal.renewed_node-keep_sent-requires-in-Quant-clause-from
renewed_node-keep_sent-requires-in-Quant-clause-from t c = (sent_node-kept c.args.store.now _ c.args.p.0 c.args.node.now (grows-then _ _ _ c.in_ok-binder-in-Quant.ensures.grows c.in_ok-inner-in-Quant.ensures.grows) c.requires.inside c.requires.below c.requires.tree)

pub renewed_node-returns-in_ok-sent-in-Atom-clause-same : goal.renewed_node-returns-in_ok-sent-in-Atom-clause-same
renewed_node-returns-in_ok-sent-in-Atom-clause-same t c = λ sig h left.
    let x = atom-stays (sent_at_sorts (image c.args.subst.now)) (term_under (image c.args.subst.now)) (sorts-map (image c.args.subst.now)) c.args.store.now c.args.p.0 left _ c.in-Atom.t (atom_node c.args.store.now c.args.node.now c.args.node.now c.args.p.0 _ refl c.requires.tree c.requires.below c.in-Atom.t c.in-Atom.is) in
    let a = c.in_ok-term-in-Atom.ensures.same sig h x in
    let r = c.in_ok-sent-in-Atom.ensures.same (c.in-Atom.is ∙ ap node.Atom (sym a.0)) in
    (r.0, r.1 ∙ a.1)

pub renewed_node-returns-in_ok-sent-in-Eq-clause-same : goal.renewed_node-returns-in_ok-sent-in-Eq-clause-same
renewed_node-returns-in_ok-sent-in-Eq-clause-same t c = λ sig h left.
    let x = equation-stays (sent_at_sorts (image c.args.subst.now)) (term_under (image c.args.subst.now)) (sorts-map (image c.args.subst.now)) c.args.store.now c.args.p.0 left _ c.in-Eq.s c.in-Eq.t (equation_node c.args.store.now c.args.node.now c.args.node.now c.args.p.0 _ refl c.requires.tree c.requires.below c.in-Eq.s c.in-Eq.t c.in-Eq.is) in
    let a = c.in_ok-left-in-Eq.ensures.same sig h x.0 in
    let b = c.in_ok-right-in-Eq.ensures.same sig (subst (IsSortedIn sig) (sym a.1) h) (subst (λ (z : Trees). term_under (image c.args.subst.now) (term_at z.terms c.in-Eq.t.0) ≡ term_at z.terms c.in-Eq.t.0) (sym a.1) x.1) in
    let r = c.in_ok-sent-in-Eq.ensures.same (c.in-Eq.is ∙ (λ i. node.Eq (sym a.0 i) (sym b.0 i))) in
    (r.0, r.1 ∙ b.1 ∙ a.1)

pub renewed_node-returns-in_ok-sent-in-Conn-clause-same : goal.renewed_node-returns-in_ok-sent-in-Conn-clause-same
renewed_node-returns-in_ok-sent-in-Conn-clause-same t c = λ sig h left.
    let a = conn-same (sent_at_sorts (image c.args.subst.now)) (term_under (image c.args.subst.now)) (sorts-map (image c.args.subst.now)) c.args.store.now c.args.p.0 c.in-Conn.c c.in-Conn.ids c.as_slice-from.result.now (conn_node c.args.store.now c.args.node.now c.args.node.now c.args.p.0 _ refl c.requires.tree c.requires.below c.in-Conn.c c.in-Conn.ids c.in-Conn.is) c.as_slice-from.ensures c.loop-i.store c.loop-i.parts c.loop-i.i (record { 0 = 0 }) (omega arith) (c.loop-i.invariant.same sig h) left in
    let r = c.in_ok-sent-in-Conn.ensures.same (c.in-Conn.is ∙ ap (node.Conn c.in-Conn.c) (sym a.0)) in
    (r.0, r.1 ∙ a.1)

pub renewed_node-returns-in_ok-sent-in-Quant-clause-same : goal.renewed_node-returns-in_ok-sent-in-Quant-clause-same
renewed_node-returns-in_ok-sent-in-Quant-clause-same t c = λ sig h left.
    let p = sent_at c.args.store.now.sents c.in-Quant.body.0 in
    let b = bound-stays (image c.args.subst.now) c.args.store.now c.args.p.0 c.in-Quant.k c.in_ok-own-in-Quant.own c.in-Quant.body (bound_node c.args.store.now c.args.node.now c.args.node.now c.args.p.0 _ refl c.requires.tree c.requires.below c.in-Quant.k c.in_ok-own-in-Quant.own c.in-Quant.body (c.in-Quant.is ∙ ap (λ (w : Var). node.Quant c.in-Quant.k w c.in-Quant.body) (sym c.in_ok-own-in-Quant.ensures))) left in
    let d = c.in_ok-binder-in-Quant.ensures.same b.unmet in
    let x : sent_at_sorts (image c.args.subst.now) (sent_at c.args.store.now.sents c.in_ok-binder-in-Quant.binder.body.0) ≡ sent_at c.args.store.now.sents c.in_ok-binder-in-Quant.binder.body.0 = rw d.0 b.body in
    let e = c.in_ok-inner-in-Quant.ensures.same sig (subst (IsSortedIn sig) (sym d.1) h) (subst (λ (z : Trees). sent_at_sorts (image c.args.subst.now) (sent_at z.sents c.in_ok-binder-in-Quant.binder.body.0) ≡ sent_at z.sents c.in_ok-binder-in-Quant.binder.body.0) (sym d.1) x) in
    let v = c.in_ok-variable-in-Quant.ensures ∙ ap (var_under (image c.args.subst.now)) (c.in_ok-binder-in-Quant.ensures.variable ∙ (unmet-binder (image c.args.subst.now) c.in_ok-own-in-Quant.own p b.unmet).0) ∙ b.variable in
    let y = e.0 ∙ d.0 in
    let r = c.in_ok-sent-in-Quant.ensures.same ((c.in-Quant.is ∙ ap (λ (w : Var). node.Quant c.in-Quant.k w c.in-Quant.body) (sym c.in_ok-own-in-Quant.ensures)) ∙ (λ i. node.Quant c.in-Quant.k (sym v i) (sym y i))) in
    (r.0, r.1 ∙ e.1 ∙ d.1)
