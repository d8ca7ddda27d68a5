use Rattle.std.proofs.Common.{◌≡◌, ◌∙◌, refl, sym, ap, subst, arith}
use Rattle.ath_trees.specs.Renamed.{renamed}
use Rattle.ath_trees.specs.declared.node.Var.{Var}
use Rattle.ath_trees.specs.Substitution.{subst_term}
use Rattle.ath_trees.specs.Tree.{var, bound}
use Rattle.ath_trees.proofs.Sorting.{renamed-sorted}
use Rattle.ath_terms.specs.Trees.{Trees, term_at, sent_at}
use Rattle.ath_terms.proofs.Grow.{grows-none, grows-then, term-kept, sent_node-kept}
use Rattle.ath_subst.proofs.PuttingLaws.{renaming-small-later, put-var, var-has}
use Rattle.ath_terms.specs.declared.node.SentNode.TheVariants as node
use Rattle.ath_subst.proofs.SameSents.{atom-stays, equation-stays, conn-same-next, conn-same, bound-renamed-stays}
use Rattle.ath_subst.proofs.SentLaws.{renaming-maps, renaming-keeps, kept-by, sorted-by, conn_node, bound_node, atom_node, equation_node, atom-small, equation-small, renamed-bound, atom-tree, equation-tree, conn-step, conn-tree, conn-below}
use Rattle.ath_subst.proofs.renaming.+renaming.Goals as goal

pub renamed_node-put_term-requires-clause-small : goal.renamed_node-put_term-requires-clause-small
renamed_node-put_term-requires-clause-small t c =
    let a = (atom_node c.args.store.now c.args.node.now c.args.node.now c.args.p.0 _ refl c.requires.tree c.requires.below c.in-Atom.t c.in-Atom.is) in
    let m = atom-small c.args.store.now c.args.p.0 _ _ _ c.in-Atom.t a c.sent_size-nodes.ensures.same c.sent_depth-levels.ensures.same c.sent_size-nodes.ensures.few c.sent_depth-levels.ensures.few in
    renaming-small-later c.args.store.now c.args.store.now c.args.y.now c.args.z.now c.args.by.0 c.in-Atom.t.0 (grows-none c.args.store.now) c.requires.there.0 a.below m.nodes m.levels

pub renamed_node-keep_sent-requires-clause-kept : goal.renamed_node-keep_sent-requires-clause-kept
renamed_node-keep_sent-requires-clause-kept t c = kept-by (renamed c.args.y.now c.args.z.now) (renaming-keeps c.args.y.now c.args.z.now) (sent_at c.args.store.now.sents c.args.p.0) _ c.sent_size-nodes.result c.sent_depth-levels.result
    (atom-tree (renamed c.args.y.now c.args.z.now) (subst_term c.args.y.now (var c.args.z.now)) (renaming-maps c.args.y.now c.args.z.now) c.args.store.now c.args.p.0 c.put_term.new.store _ c.in-Atom.t c.in_ok-term-in-Atom.term (atom_node c.args.store.now c.args.node.now c.args.node.now c.args.p.0 _ refl c.requires.tree c.requires.below c.in-Atom.t c.in-Atom.is) (put-var c.args.store.now c.put_term.new.store c.args.y.now c.args.z.now c.args.by.0 c.in_ok-term-in-Atom.term.0 _ c.in_ok-term-in-Atom.ensures.tree c.requires.there.0))
    c.sent_size-nodes.ensures.same c.sent_depth-levels.ensures.same c.sent_size-nodes.ensures.few c.sent_depth-levels.ensures.few

pub renamed_node-put_term-requires-in-Eq-clause-small : goal.renamed_node-put_term-requires-in-Eq-clause-small
renamed_node-put_term-requires-in-Eq-clause-small t c =
    let a = (equation_node c.args.store.now c.args.node.now c.args.node.now c.args.p.0 _ refl c.requires.tree c.requires.below c.in-Eq.s c.in-Eq.t c.in-Eq.is) in
    let m = equation-small c.args.store.now c.args.p.0 _ _ _ c.in-Eq.s c.in-Eq.t a c.sent_size-nodes.ensures.same c.sent_depth-levels.ensures.same c.sent_size-nodes.ensures.few c.sent_depth-levels.ensures.few in
    renaming-small-later c.args.store.now c.args.store.now c.args.y.now c.args.z.now c.args.by.0 c.in-Eq.s.0 (grows-none c.args.store.now) c.requires.there.0 a.left m.0.nodes m.0.levels

pub renamed_node-put_term-requires-in-Eq-2-clause-small : goal.renamed_node-put_term-requires-in-Eq-2-clause-small
renamed_node-put_term-requires-in-Eq-2-clause-small t c =
    let a = (equation_node c.args.store.now c.args.node.now c.args.node.now c.args.p.0 _ refl c.requires.tree c.requires.below c.in-Eq.s c.in-Eq.t c.in-Eq.is) in
    let m = equation-small c.args.store.now c.args.p.0 _ _ _ c.in-Eq.s c.in-Eq.t a c.sent_size-nodes.ensures.same c.sent_depth-levels.ensures.same c.sent_size-nodes.ensures.few c.sent_depth-levels.ensures.few in
    renaming-small-later c.args.store.now c.put_term-in-Eq.new.store c.args.y.now c.args.z.now c.args.by.0 c.in-Eq.t.0 c.in_ok-left-in-Eq.ensures.grows c.requires.there.0 a.right m.1.nodes m.1.levels

pub renamed_node-keep_sent-requires-in-Eq-clause-kept : goal.renamed_node-keep_sent-requires-in-Eq-clause-kept
renamed_node-keep_sent-requires-in-Eq-clause-kept t c = kept-by (renamed c.args.y.now c.args.z.now) (renaming-keeps c.args.y.now c.args.z.now) (sent_at c.args.store.now.sents c.args.p.0) _ c.sent_size-nodes.result c.sent_depth-levels.result
    (equation-tree (renamed c.args.y.now c.args.z.now) (subst_term c.args.y.now (var c.args.z.now)) (renaming-maps c.args.y.now c.args.z.now) c.args.store.now c.args.p.0 c.put_term-in-Eq.new.store c.put_term-in-Eq-2.new.store c.in-Eq.s c.in-Eq.t c.in_ok-left-in-Eq.left c.in_ok-right-in-Eq.right (equation_node c.args.store.now c.args.node.now c.args.node.now c.args.p.0 _ refl c.requires.tree c.requires.below c.in-Eq.s c.in-Eq.t c.in-Eq.is)
    c.in_ok-left-in-Eq.ensures.grows c.in_ok-right-in-Eq.ensures.grows (put-var c.args.store.now c.put_term-in-Eq.new.store c.args.y.now c.args.z.now c.args.by.0 c.in_ok-left-in-Eq.left.0 _ c.in_ok-left-in-Eq.ensures.tree c.requires.there.0)
    (put-var c.put_term-in-Eq.new.store c.put_term-in-Eq-2.new.store c.args.y.now c.args.z.now c.args.by.0 c.in_ok-right-in-Eq.right.0 _ c.in_ok-right-in-Eq.ensures.tree (term-kept c.args.store.now c.put_term-in-Eq.new.store c.args.by.0 (var c.args.z.now) c.in_ok-left-in-Eq.ensures.grows c.requires.there.0)))
    c.sent_size-nodes.ensures.same c.sent_depth-levels.ensures.same c.sent_size-nodes.ensures.few c.sent_depth-levels.ensures.few

pub renamed_node-loop-i-preserved : goal.renamed_node-loop-i-preserved
renamed_node-loop-i-preserved t c = record {
  grows = grows-then _ _ _ c.loop-i.invariant.grows c.in_ok-part-in-Conn.ensures.grows;
  parts = rw c.in_ok-push-in-Conn.ensures.ok (conn-step (renamed c.args.y.now c.args.z.now) (subst_term c.args.y.now (var c.args.z.now)) (renaming-maps c.args.y.now c.args.z.now) c.args.store.now c.args.p.0 c.in-Conn.c c.in-Conn.ids c.as_slice-from.result.now (conn_node c.args.store.now c.args.node.now c.args.node.now c.args.p.0 _ refl c.requires.tree c.requires.below c.in-Conn.c c.in-Conn.ids c.in-Conn.is) c.as_slice-from.ensures
      c.loop-i.store c.renamed_sent.new.store c.loop-i.parts c.loop-i.i (record { 0 = 0 }) c.in_ok-part-in-Conn.part c.requires.inside (omega arith) c.loop-i.invariant.grows c.in_ok-part-in-Conn.ensures.grows c.loop-i.invariant.parts c.in_ok-part-in-Conn.ensures.tree);
  same = rw c.in_ok-push-in-Conn.ensures.ok (conn-same-next (renamed c.args.y.now c.args.z.now) (subst_term c.args.y.now (var c.args.z.now)) (renaming-maps c.args.y.now c.args.z.now) c.args.store.now c.args.p.0 c.in-Conn.c c.in-Conn.ids c.as_slice-from.result.now (conn_node c.args.store.now c.args.node.now c.args.node.now c.args.p.0 _ refl c.requires.tree c.requires.below c.in-Conn.c c.in-Conn.ids c.in-Conn.is) c.as_slice-from.ensures c.loop-i.store c.renamed_sent.new.store c.loop-i.parts c.loop-i.i (record { 0 = 0 }) c.in_ok-part-in-Conn.part (omega arith) c.loop-i.invariant.same (λ e. c.in_ok-part-in-Conn.ensures.same));
  sorted = λ sig h. c.in_ok-part-in-Conn.ensures.sorted sig (c.loop-i.invariant.sorted sig h);
}

pub renamed_node-keep_sent-requires-in-Conn-clause-below : goal.renamed_node-keep_sent-requires-in-Conn-clause-below
renamed_node-keep_sent-requires-in-Conn-clause-below t c = conn-below (renamed c.args.y.now c.args.z.now) (subst_term c.args.y.now (var c.args.z.now)) (renaming-maps c.args.y.now c.args.z.now) c.args.store.now c.args.p.0 c.in-Conn.c c.in-Conn.ids c.as_slice-from.result.now (conn_node c.args.store.now c.args.node.now c.args.node.now c.args.p.0 _ refl c.requires.tree c.requires.below c.in-Conn.c c.in-Conn.ids c.in-Conn.is) c.as_slice-from.ensures c.loop-i.store c.loop-i.parts c.loop-i.i (omega arith) c.loop-i.invariant.parts

pub renamed_node-keep_sent-requires-in-Conn-clause-kept : goal.renamed_node-keep_sent-requires-in-Conn-clause-kept
renamed_node-keep_sent-requires-in-Conn-clause-kept t c = kept-by (renamed c.args.y.now c.args.z.now) (renaming-keeps c.args.y.now c.args.z.now) (sent_at c.args.store.now.sents c.args.p.0) _ c.sent_size-nodes.result c.sent_depth-levels.result
    (conn-tree (renamed c.args.y.now c.args.z.now) (subst_term c.args.y.now (var c.args.z.now)) (renaming-maps c.args.y.now c.args.z.now) c.args.store.now c.args.p.0 c.in-Conn.c c.in-Conn.ids c.as_slice-from.result.now (conn_node c.args.store.now c.args.node.now c.args.node.now c.args.p.0 _ refl c.requires.tree c.requires.below c.in-Conn.c c.in-Conn.ids c.in-Conn.is) c.as_slice-from.ensures c.loop-i.store c.loop-i.parts c.loop-i.i (omega arith) c.loop-i.invariant.parts)
    c.sent_size-nodes.ensures.same c.sent_depth-levels.ensures.same c.sent_size-nodes.ensures.few c.sent_depth-levels.ensures.few

pub renamed_node-keep_sent-requires-in-Quant-clause-kept : goal.renamed_node-keep_sent-requires-in-Quant-clause-kept
renamed_node-keep_sent-requires-in-Quant-clause-kept t c = kept-by (renamed c.args.y.now c.args.z.now) (renaming-keeps c.args.y.now c.args.z.now) (sent_at c.args.store.now.sents c.args.p.0) _ c.sent_size-nodes.result c.sent_depth-levels.result
    (ap (λ (w : Var). bound c.in-Quant.k w (sent_at c.renamed_sent-in-Quant.new.store.sents c.in_ok-inner-in-Quant.inner.0)) c.in_ok-own-in-Quant.ensures ∙ ap (bound c.in-Quant.k c.in-Quant.v) c.in_ok-inner-in-Quant.ensures.tree.1 ∙ sym (renamed-bound c.args.y.now c.args.z.now c.in-Quant.k c.in-Quant.v _ (sym c.is_same_var.ensures ∙ c.if-is_same_var.false)) ∙ ap (renamed c.args.y.now c.args.z.now) (sym (bound_node c.args.store.now c.args.node.now c.args.node.now c.args.p.0 _ refl c.requires.tree c.requires.below c.in-Quant.k c.in-Quant.v c.in-Quant.body c.in-Quant.is).tree))
    c.sent_size-nodes.ensures.same c.sent_depth-levels.ensures.same c.sent_size-nodes.ensures.few c.sent_depth-levels.ensures.few

pub renamed_node-returns-in_ok-sent-in-Atom-clause-sorted : goal.renamed_node-returns-in_ok-sent-in-Atom-clause-sorted
renamed_node-returns-in_ok-sent-in-Atom-clause-sorted t c = λ sig h. c.in_ok-sent-in-Atom.ensures.sorted sig (c.in_ok-term-in-Atom.ensures.sorted sig h c.requires.there.1)
    (sorted-by sig _ _ (atom-tree (renamed c.args.y.now c.args.z.now) (subst_term c.args.y.now (var c.args.z.now)) (renaming-maps c.args.y.now c.args.z.now) c.args.store.now c.args.p.0 c.put_term.new.store _ c.in-Atom.t c.in_ok-term-in-Atom.term (atom_node c.args.store.now c.args.node.now c.args.node.now c.args.p.0 _ refl c.requires.tree c.requires.below c.in-Atom.t c.in-Atom.is) (put-var c.args.store.now c.put_term.new.store c.args.y.now c.args.z.now c.args.by.0 c.in_ok-term-in-Atom.term.0 _ c.in_ok-term-in-Atom.ensures.tree c.requires.there.0))
    (renamed-sorted sig c.args.y.now c.args.z.now (sent_at c.args.store.now.sents c.args.p.0) (var-has sig c.args.store.now c.args.z.now c.args.by.0 _ h c.requires.there) (h.sents c.args.p.0 c.requires.inside)))

pub renamed_node-returns-in_ok-sent-in-Eq-clause-sorted : goal.renamed_node-returns-in_ok-sent-in-Eq-clause-sorted
renamed_node-returns-in_ok-sent-in-Eq-clause-sorted t c = λ sig h. c.in_ok-sent-in-Eq.ensures.sorted sig (c.in_ok-right-in-Eq.ensures.sorted sig (c.in_ok-left-in-Eq.ensures.sorted sig h c.requires.there.1) (c.in_ok-left-in-Eq.ensures.grows.same_sorts c.args.by.0 c.requires.there.0.0 ∙ c.requires.there.1))
    (sorted-by sig _ _ (equation-tree (renamed c.args.y.now c.args.z.now) (subst_term c.args.y.now (var c.args.z.now)) (renaming-maps c.args.y.now c.args.z.now) c.args.store.now c.args.p.0 c.put_term-in-Eq.new.store c.put_term-in-Eq-2.new.store c.in-Eq.s c.in-Eq.t c.in_ok-left-in-Eq.left c.in_ok-right-in-Eq.right (equation_node c.args.store.now c.args.node.now c.args.node.now c.args.p.0 _ refl c.requires.tree c.requires.below c.in-Eq.s c.in-Eq.t c.in-Eq.is)
    c.in_ok-left-in-Eq.ensures.grows c.in_ok-right-in-Eq.ensures.grows (put-var c.args.store.now c.put_term-in-Eq.new.store c.args.y.now c.args.z.now c.args.by.0 c.in_ok-left-in-Eq.left.0 _ c.in_ok-left-in-Eq.ensures.tree c.requires.there.0)
    (put-var c.put_term-in-Eq.new.store c.put_term-in-Eq-2.new.store c.args.y.now c.args.z.now c.args.by.0 c.in_ok-right-in-Eq.right.0 _ c.in_ok-right-in-Eq.ensures.tree (term-kept c.args.store.now c.put_term-in-Eq.new.store c.args.by.0 (var c.args.z.now) c.in_ok-left-in-Eq.ensures.grows c.requires.there.0)))
    (renamed-sorted sig c.args.y.now c.args.z.now (sent_at c.args.store.now.sents c.args.p.0) (var-has sig c.args.store.now c.args.z.now c.args.by.0 _ h c.requires.there) (h.sents c.args.p.0 c.requires.inside)))

pub renamed_node-returns-in_ok-sent-in-Conn-clause-tree : goal.renamed_node-returns-in_ok-sent-in-Conn-clause-tree
renamed_node-returns-in_ok-sent-in-Conn-clause-tree t c = let r = c.in_ok-sent-in-Conn.ensures.tree in (r.0, r.1 ∙ (conn-tree (renamed c.args.y.now c.args.z.now) (subst_term c.args.y.now (var c.args.z.now)) (renaming-maps c.args.y.now c.args.z.now) c.args.store.now c.args.p.0 c.in-Conn.c c.in-Conn.ids c.as_slice-from.result.now (conn_node c.args.store.now c.args.node.now c.args.node.now c.args.p.0 _ refl c.requires.tree c.requires.below c.in-Conn.c c.in-Conn.ids c.in-Conn.is) c.as_slice-from.ensures c.loop-i.store c.loop-i.parts c.loop-i.i (omega arith) c.loop-i.invariant.parts))

pub renamed_node-returns-in_ok-sent-in-Conn-clause-sorted : goal.renamed_node-returns-in_ok-sent-in-Conn-clause-sorted
renamed_node-returns-in_ok-sent-in-Conn-clause-sorted t c = λ sig h. c.in_ok-sent-in-Conn.ensures.sorted sig (c.loop-i.invariant.sorted sig h)
    (sorted-by sig _ _ (conn-tree (renamed c.args.y.now c.args.z.now) (subst_term c.args.y.now (var c.args.z.now)) (renaming-maps c.args.y.now c.args.z.now) c.args.store.now c.args.p.0 c.in-Conn.c c.in-Conn.ids c.as_slice-from.result.now (conn_node c.args.store.now c.args.node.now c.args.node.now c.args.p.0 _ refl c.requires.tree c.requires.below c.in-Conn.c c.in-Conn.ids c.in-Conn.is) c.as_slice-from.ensures c.loop-i.store c.loop-i.parts c.loop-i.i (omega arith) c.loop-i.invariant.parts)
    (renamed-sorted sig c.args.y.now c.args.z.now (sent_at c.args.store.now.sents c.args.p.0) (var-has sig c.args.store.now c.args.z.now c.args.by.0 _ h c.requires.there) (h.sents c.args.p.0 c.requires.inside)))

pub renamed_node-keep_sent-requires-clause-from : goal.renamed_node-keep_sent-requires-clause-from
renamed_node-keep_sent-requires-clause-from t c = (sent_node-kept c.args.store.now _ c.args.p.0 c.args.node.now c.in_ok-term-in-Atom.ensures.grows c.requires.inside c.requires.below c.requires.tree)

pub renamed_node-keep_sent-requires-in-Eq-clause-from : goal.renamed_node-keep_sent-requires-in-Eq-clause-from
renamed_node-keep_sent-requires-in-Eq-clause-from t c = (sent_node-kept c.args.store.now _ c.args.p.0 c.args.node.now (grows-then _ _ _ c.in_ok-left-in-Eq.ensures.grows c.in_ok-right-in-Eq.ensures.grows) c.requires.inside c.requires.below c.requires.tree)

pub renamed_node-keep_sent-requires-in-Conn-clause-from : goal.renamed_node-keep_sent-requires-in-Conn-clause-from
renamed_node-keep_sent-requires-in-Conn-clause-from t c = (sent_node-kept c.args.store.now _ c.args.p.0 c.args.node.now c.loop-i.invariant.grows c.requires.inside c.requires.below c.requires.tree)

pub renamed_node-keep_sent-requires-in-Quant-clause-from : goal.renamed_node-keep_sent-requires-in-Quant-clause-from
renamed_node-keep_sent-requires-in-Quant-clause-from t c = (sent_node-kept c.args.store.now _ c.args.p.0 c.args.node.now c.in_ok-inner-in-Quant.ensures.grows c.requires.inside c.requires.below c.requires.tree)

pub renamed_node-returns-in_ok-sent-in-Atom-clause-same : goal.renamed_node-returns-in_ok-sent-in-Atom-clause-same
renamed_node-returns-in_ok-sent-in-Atom-clause-same t c = λ left.
    let x = atom-stays (renamed c.args.y.now c.args.z.now) (subst_term c.args.y.now (var c.args.z.now)) (renaming-maps c.args.y.now c.args.z.now) c.args.store.now c.args.p.0 left _ c.in-Atom.t (atom_node c.args.store.now c.args.node.now c.args.node.now c.args.p.0 _ refl c.requires.tree c.requires.below c.in-Atom.t c.in-Atom.is) in
    let a = c.in_ok-term-in-Atom.ensures.same (ap (λ b. subst_term c.args.y.now b (term_at c.args.store.now.terms c.in-Atom.t.0)) c.requires.there.0.1 ∙ x) in
    let r = c.in_ok-sent-in-Atom.ensures.same (c.in-Atom.is ∙ ap node.Atom (sym a.0)) in
    (r.0, r.1 ∙ a.1)

pub renamed_node-returns-in_ok-sent-in-Eq-clause-same : goal.renamed_node-returns-in_ok-sent-in-Eq-clause-same
renamed_node-returns-in_ok-sent-in-Eq-clause-same t c = λ left.
    let x = equation-stays (renamed c.args.y.now c.args.z.now) (subst_term c.args.y.now (var c.args.z.now)) (renaming-maps c.args.y.now c.args.z.now) c.args.store.now c.args.p.0 left _ c.in-Eq.s c.in-Eq.t (equation_node c.args.store.now c.args.node.now c.args.node.now c.args.p.0 _ refl c.requires.tree c.requires.below c.in-Eq.s c.in-Eq.t c.in-Eq.is) in
    let a = c.in_ok-left-in-Eq.ensures.same (ap (λ b. subst_term c.args.y.now b (term_at c.args.store.now.terms c.in-Eq.s.0)) c.requires.there.0.1 ∙ x.0) in
    let b = c.in_ok-right-in-Eq.ensures.same (subst (λ (z : Trees). subst_term c.args.y.now (term_at z.terms c.args.by.0) (term_at z.terms c.in-Eq.t.0) ≡ term_at z.terms c.in-Eq.t.0) (sym a.1) (ap (λ b. subst_term c.args.y.now b (term_at c.args.store.now.terms c.in-Eq.t.0)) c.requires.there.0.1 ∙ x.1)) in
    let r = c.in_ok-sent-in-Eq.ensures.same (c.in-Eq.is ∙ (λ i. node.Eq (sym a.0 i) (sym b.0 i))) in
    (r.0, r.1 ∙ b.1 ∙ a.1)

pub renamed_node-returns-in_ok-sent-in-Conn-clause-same : goal.renamed_node-returns-in_ok-sent-in-Conn-clause-same
renamed_node-returns-in_ok-sent-in-Conn-clause-same t c = λ left.
    let a = conn-same (renamed c.args.y.now c.args.z.now) (subst_term c.args.y.now (var c.args.z.now)) (renaming-maps c.args.y.now c.args.z.now) c.args.store.now c.args.p.0 c.in-Conn.c c.in-Conn.ids c.as_slice-from.result.now (conn_node c.args.store.now c.args.node.now c.args.node.now c.args.p.0 _ refl c.requires.tree c.requires.below c.in-Conn.c c.in-Conn.ids c.in-Conn.is) c.as_slice-from.ensures c.loop-i.store c.loop-i.parts c.loop-i.i (record { 0 = 0 }) (omega arith) c.loop-i.invariant.same left in
    let r = c.in_ok-sent-in-Conn.ensures.same (c.in-Conn.is ∙ ap (node.Conn c.in-Conn.c) (sym a.0)) in
    (r.0, r.1 ∙ a.1)

pub renamed_node-returns-in_ok-sent-in-Quant-clause-same : goal.renamed_node-returns-in_ok-sent-in-Quant-clause-same
renamed_node-returns-in_ok-sent-in-Quant-clause-same t c = λ left.
    let x = bound-renamed-stays c.args.y.now c.args.z.now c.args.store.now c.args.p.0 c.in-Quant.k c.in-Quant.v c.in-Quant.body (bound_node c.args.store.now c.args.node.now c.args.node.now c.args.p.0 _ refl c.requires.tree c.requires.below c.in-Quant.k c.in-Quant.v c.in-Quant.body c.in-Quant.is) (sym c.is_same_var.ensures ∙ c.if-is_same_var.false) left in
    let a = c.in_ok-inner-in-Quant.ensures.same x in
    let v = c.in_ok-own-in-Quant.ensures in
    let y = a.0 in
    let r = c.in_ok-sent-in-Quant.ensures.same (c.in-Quant.is ∙ (λ i. node.Quant c.in-Quant.k (sym v i) (sym y i))) in
    (r.0, r.1 ∙ a.1)
