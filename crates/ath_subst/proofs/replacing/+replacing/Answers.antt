use Rattle.std.proofs.Common.{◌≡◌, get_or, sym, ◌∙◌, ap, subst, arith, refl}
use Rattle.ath_terms.specs.Trees.{Trees, term_at, sent_at}
use Rattle.ath_terms.proofs.Grow.{grows-then, sent_node-kept}
use Rattle.ath_trees.specs.Substitution.{subst_term, subst_sent}
use Rattle.ath_trees.specs.Variables.{term_vars}
use Rattle.ath_trees.proofs.Sorting.{subst-sorted}
use Rattle.ath_trees.proofs.SubstForms.{subst-absent}
use Rattle.ath_subst.specs.Captures.{is_left}
use Rattle.ath_subst.proofs.BinderLaws.{bound-valid}
use Rattle.ath_subst.proofs.CaptureLaws.{left-tree, open-falls, open-small, open-tree, small-as, same-put, same-put-sent, fit-has}
use Rattle.ath_subst.proofs.CountLaws.{put_atom, put_part-small}
use Rattle.ath_terms.specs.declared.node.SentNode.TheVariants as node
use Rattle.ath_subst.proofs.SameSents.{atom-stays, equation-stays, conn-same-next, conn-same, bound-put-stays}
use Rattle.ath_trees.specs.declared.node.Var.{Var}
use Rattle.ath_subst.proofs.SentLaws.{put-maps, sorted-by, conn_node, bound_node, atom_node, equation_node, atom-tree, equation-tree, conn_part-deep, conn_part-inside, conn-step, conn-tree, conn-below}
use Rattle.ath_subst.proofs.replacing.+replacing.Goals as goal

pub put_node-put_term-requires-clause-small : goal.put_node-put_term-requires-clause-small
put_node-put_term-requires-clause-small t c = small-as (subst_sent c.args.x.now (term_at c.args.store.now.terms c.args.by.0) (sent_at c.args.store.now.sents c.args.p.0)) _ (put_atom c.args.x.now (term_at c.args.store.now.terms c.args.by.0) c.args.store.now c.args.p.0 _ c.in-Atom.t (atom_node c.args.store.now c.args.node.now c.args.node.now c.args.p.0 _ refl c.requires.tree c.requires.below c.in-Atom.t c.in-Atom.is)) c.requires.small

pub put_node-keep_small_sent-requires-clause-small : goal.put_node-keep_small_sent-requires-clause-small
put_node-keep_small_sent-requires-clause-small t c = small-as (subst_sent c.args.x.now (term_at c.args.store.now.terms c.args.by.0) (sent_at c.args.store.now.sents c.args.p.0)) _ (sym (atom-tree (subst_sent c.args.x.now (term_at c.args.store.now.terms c.args.by.0)) (subst_term c.args.x.now (term_at c.args.store.now.terms c.args.by.0)) (put-maps c.args.x.now (term_at c.args.store.now.terms c.args.by.0)) c.args.store.now c.args.p.0 c.put_term.new.store _ c.in-Atom.t c.in_ok-term-in-Atom.term (atom_node c.args.store.now c.args.node.now c.args.node.now c.args.p.0 _ refl c.requires.tree c.requires.below c.in-Atom.t c.in-Atom.is) c.in_ok-term-in-Atom.ensures.tree)) c.requires.small

pub put_node-keep_small_sent-requires-in-Eq-clause-small : goal.put_node-keep_small_sent-requires-in-Eq-clause-small
put_node-keep_small_sent-requires-in-Eq-clause-small t c = small-as (subst_sent c.args.x.now (term_at c.args.store.now.terms c.args.by.0) (sent_at c.args.store.now.sents c.args.p.0)) _ (sym (equation-tree (subst_sent c.args.x.now (term_at c.args.store.now.terms c.args.by.0)) (subst_term c.args.x.now (term_at c.args.store.now.terms c.args.by.0)) (put-maps c.args.x.now (term_at c.args.store.now.terms c.args.by.0)) c.args.store.now c.args.p.0 c.put_term-in-Eq.new.store c.put_term-in-Eq-2.new.store c.in-Eq.s c.in-Eq.t c.in_ok-left-in-Eq.left c.in_ok-right-in-Eq.right (equation_node c.args.store.now c.args.node.now c.args.node.now c.args.p.0 _ refl c.requires.tree c.requires.below c.in-Eq.s c.in-Eq.t c.in-Eq.is)
    c.in_ok-left-in-Eq.ensures.grows c.in_ok-right-in-Eq.ensures.grows c.in_ok-left-in-Eq.ensures.tree
    (same-put c.put_term-in-Eq-2.new.store c.in_ok-right-in-Eq.right.0 c.args.x.now _ (term_at c.args.store.now.terms c.args.by.0) _ (c.in_ok-left-in-Eq.ensures.grows.same_terms c.args.by.0 c.requires.there) c.in_ok-right-in-Eq.ensures.tree))) c.requires.small

pub put_node-put_sent-requires : goal.put_node-put_sent-requires
put_node-put_sent-requires t c =
    let d = conn_part-deep (subst_sent c.args.x.now (term_at c.args.store.now.terms c.args.by.0)) (subst_term c.args.x.now (term_at c.args.store.now.terms c.args.by.0)) (put-maps c.args.x.now (term_at c.args.store.now.terms c.args.by.0)) c.args.store.now c.args.p.0 c.in-Conn.c c.in-Conn.ids c.as_slice-from.result.now (conn_node c.args.store.now c.args.node.now c.args.node.now c.args.p.0 _ refl c.requires.tree c.requires.below c.in-Conn.c c.in-Conn.ids c.in-Conn.is) c.as_slice-from.ensures c.loop-i.store c.loop-i.i (record { 0 = 0 }) c.requires.inside (omega arith) c.loop-i.invariant.grows in
    let b = conn_part-inside (subst_sent c.args.x.now (term_at c.args.store.now.terms c.args.by.0)) (subst_term c.args.x.now (term_at c.args.store.now.terms c.args.by.0)) (put-maps c.args.x.now (term_at c.args.store.now.terms c.args.by.0)) c.args.store.now c.args.p.0 c.in-Conn.c c.in-Conn.ids c.as_slice-from.result.now (conn_node c.args.store.now c.args.node.now c.args.node.now c.args.p.0 _ refl c.requires.tree c.requires.below c.in-Conn.c c.in-Conn.ids c.in-Conn.is) c.as_slice-from.ensures c.loop-i.i (record { 0 = 0 }) (omega arith) in
    let s = put_part-small c.args.x.now (term_at c.args.store.now.terms c.args.by.0) c.args.store.now c.args.p.0 c.in-Conn.c c.in-Conn.ids c.as_slice-from.result.now (conn_node c.args.store.now c.args.node.now c.args.node.now c.args.p.0 _ refl c.requires.tree c.requires.below c.in-Conn.c c.in-Conn.ids c.in-Conn.is) c.as_slice-from.ensures c.loop-i.i (record { 0 = 0 }) (omega arith) c.requires.small in
    let g = c.loop-i.invariant.grows in
    let inside = c.requires.inside in
    let there = c.requires.there in
    let e = sym (c.loop-i.invariant.grows.same_terms c.args.by.0 c.requires.there) in
    let f = g.same_sents (get_or c.as_slice-from.result.now c.loop-i.i (record { 0 = 0 })).0 (omega (arith, b)) in
    (omega (arith, c.decreases, d), (omega (arith, g.sents, b), (omega (arith, g.terms), (c.requires.named ∙ ap term_vars e, small-as _ _ (λ i. subst_sent c.args.x.now (e i) (sym f i)) s))))

pub put_node-loop-i-preserved : goal.put_node-loop-i-preserved
put_node-loop-i-preserved t c = record {
  grows = grows-then _ _ _ c.loop-i.invariant.grows c.in_ok-part-in-Conn.ensures.grows;
  parts = rw c.in_ok-push-in-Conn.ensures.ok (conn-step (subst_sent c.args.x.now (term_at c.args.store.now.terms c.args.by.0)) (subst_term c.args.x.now (term_at c.args.store.now.terms c.args.by.0)) (put-maps c.args.x.now (term_at c.args.store.now.terms c.args.by.0)) c.args.store.now c.args.p.0 c.in-Conn.c c.in-Conn.ids c.as_slice-from.result.now (conn_node c.args.store.now c.args.node.now c.args.node.now c.args.p.0 _ refl c.requires.tree c.requires.below c.in-Conn.c c.in-Conn.ids c.in-Conn.is) c.as_slice-from.ensures
      c.loop-i.store c.put_sent.new.store c.loop-i.parts c.loop-i.i (record { 0 = 0 }) c.in_ok-part-in-Conn.part c.requires.inside (omega arith) c.loop-i.invariant.grows c.in_ok-part-in-Conn.ensures.grows c.loop-i.invariant.parts
      (same-put-sent c.put_sent.new.store c.in_ok-part-in-Conn.part.0 c.args.x.now (term_at c.loop-i.store.terms c.args.by.0) (term_at c.args.store.now.terms c.args.by.0) (sent_at c.loop-i.store.sents (get_or c.as_slice-from.result.now c.loop-i.i (record { 0 = 0 })).0) (c.loop-i.invariant.grows.same_terms c.args.by.0 c.requires.there) c.in_ok-part-in-Conn.ensures.tree));
  same = rw c.in_ok-push-in-Conn.ensures.ok (conn-same-next (subst_sent c.args.x.now (term_at c.args.store.now.terms c.args.by.0)) (subst_term c.args.x.now (term_at c.args.store.now.terms c.args.by.0)) (put-maps c.args.x.now (term_at c.args.store.now.terms c.args.by.0)) c.args.store.now c.args.p.0 c.in-Conn.c c.in-Conn.ids c.as_slice-from.result.now (conn_node c.args.store.now c.args.node.now c.args.node.now c.args.p.0 _ refl c.requires.tree c.requires.below c.in-Conn.c c.in-Conn.ids c.in-Conn.is) c.as_slice-from.ensures c.loop-i.store c.put_sent.new.store c.loop-i.parts c.loop-i.i (record { 0 = 0 }) c.in_ok-part-in-Conn.part (omega arith) c.loop-i.invariant.same (λ e. λ q. c.in_ok-part-in-Conn.ensures.same (subst (λ (z : Trees). subst_sent c.args.x.now (term_at z.terms c.args.by.0) (sent_at c.loop-i.store.sents (get_or c.as_slice-from.result.now c.loop-i.i (record { 0 = 0 })).0) ≡ sent_at c.loop-i.store.sents (get_or c.as_slice-from.result.now c.loop-i.i (record { 0 = 0 })).0) (sym e) q)));
  sorted = λ sig h fits. c.in_ok-part-in-Conn.ensures.sorted sig (c.loop-i.invariant.sorted sig h fits) (c.loop-i.invariant.grows.same_sorts c.args.by.0 c.requires.there ∙ fits);
}

pub put_node-keep_small_sent-requires-in-Conn-clause-below : goal.put_node-keep_small_sent-requires-in-Conn-clause-below
put_node-keep_small_sent-requires-in-Conn-clause-below t c = conn-below (subst_sent c.args.x.now (term_at c.args.store.now.terms c.args.by.0)) (subst_term c.args.x.now (term_at c.args.store.now.terms c.args.by.0)) (put-maps c.args.x.now (term_at c.args.store.now.terms c.args.by.0)) c.args.store.now c.args.p.0 c.in-Conn.c c.in-Conn.ids c.as_slice-from.result.now (conn_node c.args.store.now c.args.node.now c.args.node.now c.args.p.0 _ refl c.requires.tree c.requires.below c.in-Conn.c c.in-Conn.ids c.in-Conn.is) c.as_slice-from.ensures c.loop-i.store c.loop-i.parts c.loop-i.i (omega arith) c.loop-i.invariant.parts

pub put_node-keep_small_sent-requires-in-Conn-clause-small : goal.put_node-keep_small_sent-requires-in-Conn-clause-small
put_node-keep_small_sent-requires-in-Conn-clause-small t c = small-as (subst_sent c.args.x.now (term_at c.args.store.now.terms c.args.by.0) (sent_at c.args.store.now.sents c.args.p.0)) _ (sym (conn-tree (subst_sent c.args.x.now (term_at c.args.store.now.terms c.args.by.0)) (subst_term c.args.x.now (term_at c.args.store.now.terms c.args.by.0)) (put-maps c.args.x.now (term_at c.args.store.now.terms c.args.by.0)) c.args.store.now c.args.p.0 c.in-Conn.c c.in-Conn.ids c.as_slice-from.result.now (conn_node c.args.store.now c.args.node.now c.args.node.now c.args.p.0 _ refl c.requires.tree c.requires.below c.in-Conn.c c.in-Conn.ids c.in-Conn.is) c.as_slice-from.ensures c.loop-i.store c.loop-i.parts c.loop-i.i (omega arith) c.loop-i.invariant.parts)) c.requires.small

pub put_node-returns-then-left-clause-tree : goal.put_node-returns-then-left-clause-tree
put_node-returns-then-left-clause-tree t c = (c.requires.inside, left-tree c.args.x.now (term_at c.args.store.now.terms c.args.by.0) c.args.store.now c.args.p.0 c.in-Quant.k c.in-Quant.v c.in-Quant.body (bound_node c.args.store.now c.args.node.now c.args.node.now c.args.p.0 _ refl c.requires.tree c.requires.below c.in-Quant.k c.in-Quant.v c.in-Quant.body c.in-Quant.is) (sym c.in_ok-left-in-Quant.ensures ∙ c.if-left.true))

pub put_node-put_sent-requires-in-Quant : goal.put_node-put_sent-requires-in-Quant
put_node-put_sent-requires-in-Quant t c =
    let d = open-falls c.args.x.now (term_at c.args.store.now.terms c.args.by.0) c.args.store.now c.args.p.0 c.in-Quant.k c.in_ok-own-in-Quant.own c.in-Quant.body (bound_node c.args.store.now c.args.node.now c.args.node.now c.args.p.0 _ refl c.requires.tree c.requires.below c.in-Quant.k c.in_ok-own-in-Quant.own c.in-Quant.body (c.in-Quant.is ∙ ap (λ (w : Var). node.Quant c.in-Quant.k w c.in-Quant.body) (sym c.in_ok-own-in-Quant.ensures))) c.open_binder.new.store c.in_ok-binder-in-Quant.binder.body.0 c.in_ok-binder-in-Quant.ensures.body in
    let g = c.in_ok-binder-in-Quant.ensures.grows in
    let there = c.requires.there in
    (omega (arith, c.decreases, d), (c.in_ok-binder-in-Quant.ensures.body.0, (omega (arith, g.terms), (c.requires.named ∙ ap term_vars (sym (c.in_ok-binder-in-Quant.ensures.grows.same_terms c.args.by.0 c.requires.there)), open-small c.args.x.now (term_at c.args.store.now.terms c.args.by.0) c.args.store.now c.args.p.0 c.in-Quant.k c.in_ok-own-in-Quant.own c.in-Quant.body (bound_node c.args.store.now c.args.node.now c.args.node.now c.args.p.0 _ refl c.requires.tree c.requires.below c.in-Quant.k c.in_ok-own-in-Quant.own c.in-Quant.body (c.in-Quant.is ∙ ap (λ (w : Var). node.Quant c.in-Quant.k w c.in-Quant.body) (sym c.in_ok-own-in-Quant.ensures))) c.open_binder.new.store c.in_ok-binder-in-Quant.binder.body.0 _ (ap (λ (w : Var). is_left c.args.x.now (term_at c.args.store.now.terms c.args.by.0) w (sent_at c.args.store.now.sents c.in-Quant.body.0)) c.in_ok-own-in-Quant.ensures ∙ sym c.in_ok-left-in-Quant.ensures ∙ c.if-left.false) c.requires.small (c.in_ok-binder-in-Quant.ensures.grows.same_terms c.args.by.0 c.requires.there) c.in_ok-binder-in-Quant.ensures.body))))

pub put_node-keep_small_sent-requires-in-Quant-clause-small : goal.put_node-keep_small_sent-requires-in-Quant-clause-small
put_node-keep_small_sent-requires-in-Quant-clause-small t c = small-as (subst_sent c.args.x.now (term_at c.args.store.now.terms c.args.by.0) (sent_at c.args.store.now.sents c.args.p.0)) _ (sym (open-tree c.args.x.now (term_at c.args.store.now.terms c.args.by.0) c.args.store.now c.args.p.0 c.in-Quant.k c.in_ok-own-in-Quant.own c.in-Quant.body (bound_node c.args.store.now c.args.node.now c.args.node.now c.args.p.0 _ refl c.requires.tree c.requires.below c.in-Quant.k c.in_ok-own-in-Quant.own c.in-Quant.body (c.in-Quant.is ∙ ap (λ (w : Var). node.Quant c.in-Quant.k w c.in-Quant.body) (sym c.in_ok-own-in-Quant.ensures))) c.open_binder.new.store c.put_sent-in-Quant.new.store c.in_ok-binder-in-Quant.binder.variable c.in_ok-binder-in-Quant.binder.body.0 c.in_ok-inner-in-Quant.inner.0 _ (ap (λ (w : Var). is_left c.args.x.now (term_at c.args.store.now.terms c.args.by.0) w (sent_at c.args.store.now.sents c.in-Quant.body.0)) c.in_ok-own-in-Quant.ensures ∙ sym c.in_ok-left-in-Quant.ensures ∙ c.if-left.false) c.in_ok-binder-in-Quant.ensures.variable c.in_ok-binder-in-Quant.ensures.body (c.in_ok-binder-in-Quant.ensures.grows.same_terms c.args.by.0 c.requires.there) c.in_ok-inner-in-Quant.ensures.tree)) c.requires.small

pub put_node-returns-in_ok-sent-in-Atom-clause-tree : goal.put_node-returns-in_ok-sent-in-Atom-clause-tree
put_node-returns-in_ok-sent-in-Atom-clause-tree t c = let r = c.in_ok-sent-in-Atom.ensures.tree in (r.0, r.1 ∙ (atom-tree (subst_sent c.args.x.now (term_at c.args.store.now.terms c.args.by.0)) (subst_term c.args.x.now (term_at c.args.store.now.terms c.args.by.0)) (put-maps c.args.x.now (term_at c.args.store.now.terms c.args.by.0)) c.args.store.now c.args.p.0 c.put_term.new.store _ c.in-Atom.t c.in_ok-term-in-Atom.term (atom_node c.args.store.now c.args.node.now c.args.node.now c.args.p.0 _ refl c.requires.tree c.requires.below c.in-Atom.t c.in-Atom.is) c.in_ok-term-in-Atom.ensures.tree))

pub put_node-returns-in_ok-sent-in-Atom-clause-sorted : goal.put_node-returns-in_ok-sent-in-Atom-clause-sorted
put_node-returns-in_ok-sent-in-Atom-clause-sorted t c = λ sig h fits. c.in_ok-sent-in-Atom.ensures.sorted sig (c.in_ok-term-in-Atom.ensures.sorted sig h fits)
    (sorted-by sig _ _ (atom-tree (subst_sent c.args.x.now (term_at c.args.store.now.terms c.args.by.0)) (subst_term c.args.x.now (term_at c.args.store.now.terms c.args.by.0)) (put-maps c.args.x.now (term_at c.args.store.now.terms c.args.by.0)) c.args.store.now c.args.p.0 c.put_term.new.store _ c.in-Atom.t c.in_ok-term-in-Atom.term (atom_node c.args.store.now c.args.node.now c.args.node.now c.args.p.0 _ refl c.requires.tree c.requires.below c.in-Atom.t c.in-Atom.is) c.in_ok-term-in-Atom.ensures.tree)
    (subst-sorted sig c.args.x.now (term_at c.args.store.now.terms c.args.by.0) (sent_at c.args.store.now.sents c.args.p.0) (fit-has sig c.args.store.now c.args.by.0 _ h c.requires.there fits) (h.sents c.args.p.0 c.requires.inside)))

pub put_node-returns-in_ok-sent-in-Eq-clause-tree : goal.put_node-returns-in_ok-sent-in-Eq-clause-tree
put_node-returns-in_ok-sent-in-Eq-clause-tree t c = let r = c.in_ok-sent-in-Eq.ensures.tree in (
  r.0,
  r.1 ∙ (equation-tree (subst_sent c.args.x.now (term_at c.args.store.now.terms c.args.by.0)) (subst_term c.args.x.now (term_at c.args.store.now.terms c.args.by.0)) (put-maps c.args.x.now (term_at c.args.store.now.terms c.args.by.0)) c.args.store.now c.args.p.0 c.put_term-in-Eq.new.store c.put_term-in-Eq-2.new.store c.in-Eq.s c.in-Eq.t c.in_ok-left-in-Eq.left c.in_ok-right-in-Eq.right (equation_node c.args.store.now c.args.node.now c.args.node.now c.args.p.0 _ refl c.requires.tree c.requires.below c.in-Eq.s c.in-Eq.t c.in-Eq.is)
      c.in_ok-left-in-Eq.ensures.grows c.in_ok-right-in-Eq.ensures.grows c.in_ok-left-in-Eq.ensures.tree
      (same-put c.put_term-in-Eq-2.new.store c.in_ok-right-in-Eq.right.0 c.args.x.now _ (term_at c.args.store.now.terms c.args.by.0) _ (c.in_ok-left-in-Eq.ensures.grows.same_terms c.args.by.0 c.requires.there) c.in_ok-right-in-Eq.ensures.tree)),
)

pub put_node-returns-in_ok-sent-in-Eq-clause-sorted : goal.put_node-returns-in_ok-sent-in-Eq-clause-sorted
put_node-returns-in_ok-sent-in-Eq-clause-sorted t c = λ sig h fits. c.in_ok-sent-in-Eq.ensures.sorted sig (c.in_ok-right-in-Eq.ensures.sorted sig (c.in_ok-left-in-Eq.ensures.sorted sig h fits) (c.in_ok-left-in-Eq.ensures.grows.same_sorts c.args.by.0 c.requires.there ∙ fits))
    (sorted-by sig _ _ (equation-tree (subst_sent c.args.x.now (term_at c.args.store.now.terms c.args.by.0)) (subst_term c.args.x.now (term_at c.args.store.now.terms c.args.by.0)) (put-maps c.args.x.now (term_at c.args.store.now.terms c.args.by.0)) c.args.store.now c.args.p.0 c.put_term-in-Eq.new.store c.put_term-in-Eq-2.new.store c.in-Eq.s c.in-Eq.t c.in_ok-left-in-Eq.left c.in_ok-right-in-Eq.right (equation_node c.args.store.now c.args.node.now c.args.node.now c.args.p.0 _ refl c.requires.tree c.requires.below c.in-Eq.s c.in-Eq.t c.in-Eq.is)
    c.in_ok-left-in-Eq.ensures.grows c.in_ok-right-in-Eq.ensures.grows c.in_ok-left-in-Eq.ensures.tree
    (same-put c.put_term-in-Eq-2.new.store c.in_ok-right-in-Eq.right.0 c.args.x.now _ (term_at c.args.store.now.terms c.args.by.0) _ (c.in_ok-left-in-Eq.ensures.grows.same_terms c.args.by.0 c.requires.there) c.in_ok-right-in-Eq.ensures.tree))
    (subst-sorted sig c.args.x.now (term_at c.args.store.now.terms c.args.by.0) (sent_at c.args.store.now.sents c.args.p.0) (fit-has sig c.args.store.now c.args.by.0 _ h c.requires.there fits) (h.sents c.args.p.0 c.requires.inside)))

pub put_node-returns-in_ok-sent-in-Conn-clause-tree : goal.put_node-returns-in_ok-sent-in-Conn-clause-tree
put_node-returns-in_ok-sent-in-Conn-clause-tree t c = let r = c.in_ok-sent-in-Conn.ensures.tree in (r.0, r.1 ∙ (conn-tree (subst_sent c.args.x.now (term_at c.args.store.now.terms c.args.by.0)) (subst_term c.args.x.now (term_at c.args.store.now.terms c.args.by.0)) (put-maps c.args.x.now (term_at c.args.store.now.terms c.args.by.0)) c.args.store.now c.args.p.0 c.in-Conn.c c.in-Conn.ids c.as_slice-from.result.now (conn_node c.args.store.now c.args.node.now c.args.node.now c.args.p.0 _ refl c.requires.tree c.requires.below c.in-Conn.c c.in-Conn.ids c.in-Conn.is) c.as_slice-from.ensures c.loop-i.store c.loop-i.parts c.loop-i.i (omega arith) c.loop-i.invariant.parts))

pub put_node-returns-in_ok-sent-in-Conn-clause-sorted : goal.put_node-returns-in_ok-sent-in-Conn-clause-sorted
put_node-returns-in_ok-sent-in-Conn-clause-sorted t c = λ sig h fits. c.in_ok-sent-in-Conn.ensures.sorted sig (c.loop-i.invariant.sorted sig h fits)
    (sorted-by sig _ _ (conn-tree (subst_sent c.args.x.now (term_at c.args.store.now.terms c.args.by.0)) (subst_term c.args.x.now (term_at c.args.store.now.terms c.args.by.0)) (put-maps c.args.x.now (term_at c.args.store.now.terms c.args.by.0)) c.args.store.now c.args.p.0 c.in-Conn.c c.in-Conn.ids c.as_slice-from.result.now (conn_node c.args.store.now c.args.node.now c.args.node.now c.args.p.0 _ refl c.requires.tree c.requires.below c.in-Conn.c c.in-Conn.ids c.in-Conn.is) c.as_slice-from.ensures c.loop-i.store c.loop-i.parts c.loop-i.i (omega arith) c.loop-i.invariant.parts)
    (subst-sorted sig c.args.x.now (term_at c.args.store.now.terms c.args.by.0) (sent_at c.args.store.now.sents c.args.p.0) (fit-has sig c.args.store.now c.args.by.0 _ h c.requires.there fits) (h.sents c.args.p.0 c.requires.inside)))

pub put_node-returns-in_ok-sent-in-Quant-clause-tree : goal.put_node-returns-in_ok-sent-in-Quant-clause-tree
put_node-returns-in_ok-sent-in-Quant-clause-tree t c = let r = c.in_ok-sent-in-Quant.ensures.tree in (r.0, r.1 ∙ (open-tree c.args.x.now (term_at c.args.store.now.terms c.args.by.0) c.args.store.now c.args.p.0 c.in-Quant.k c.in_ok-own-in-Quant.own c.in-Quant.body (bound_node c.args.store.now c.args.node.now c.args.node.now c.args.p.0 _ refl c.requires.tree c.requires.below c.in-Quant.k c.in_ok-own-in-Quant.own c.in-Quant.body (c.in-Quant.is ∙ ap (λ (w : Var). node.Quant c.in-Quant.k w c.in-Quant.body) (sym c.in_ok-own-in-Quant.ensures))) c.open_binder.new.store c.put_sent-in-Quant.new.store c.in_ok-binder-in-Quant.binder.variable c.in_ok-binder-in-Quant.binder.body.0 c.in_ok-inner-in-Quant.inner.0 _ (ap (λ (w : Var). is_left c.args.x.now (term_at c.args.store.now.terms c.args.by.0) w (sent_at c.args.store.now.sents c.in-Quant.body.0)) c.in_ok-own-in-Quant.ensures ∙ sym c.in_ok-left-in-Quant.ensures ∙ c.if-left.false) c.in_ok-binder-in-Quant.ensures.variable c.in_ok-binder-in-Quant.ensures.body (c.in_ok-binder-in-Quant.ensures.grows.same_terms c.args.by.0 c.requires.there) c.in_ok-inner-in-Quant.ensures.tree))

pub put_node-returns-in_ok-sent-in-Quant-clause-sorted : goal.put_node-returns-in_ok-sent-in-Quant-clause-sorted
put_node-returns-in_ok-sent-in-Quant-clause-sorted t c = λ sig h fits. c.in_ok-sent-in-Quant.ensures.sorted sig (c.in_ok-inner-in-Quant.ensures.sorted sig (c.in_ok-binder-in-Quant.ensures.sorted sig h (bound-valid sig c.args.store.now c.args.p.0 c.in-Quant.k c.in_ok-own-in-Quant.own c.in-Quant.body (bound_node c.args.store.now c.args.node.now c.args.node.now c.args.p.0 _ refl c.requires.tree c.requires.below c.in-Quant.k c.in_ok-own-in-Quant.own c.in-Quant.body (c.in-Quant.is ∙ ap (λ (w : Var). node.Quant c.in-Quant.k w c.in-Quant.body) (sym c.in_ok-own-in-Quant.ensures))) (h.sents c.args.p.0 c.requires.inside))) (c.in_ok-binder-in-Quant.ensures.grows.same_sorts c.args.by.0 c.requires.there ∙ fits))
    (sorted-by sig _ _ (open-tree c.args.x.now (term_at c.args.store.now.terms c.args.by.0) c.args.store.now c.args.p.0 c.in-Quant.k c.in_ok-own-in-Quant.own c.in-Quant.body (bound_node c.args.store.now c.args.node.now c.args.node.now c.args.p.0 _ refl c.requires.tree c.requires.below c.in-Quant.k c.in_ok-own-in-Quant.own c.in-Quant.body (c.in-Quant.is ∙ ap (λ (w : Var). node.Quant c.in-Quant.k w c.in-Quant.body) (sym c.in_ok-own-in-Quant.ensures))) c.open_binder.new.store c.put_sent-in-Quant.new.store c.in_ok-binder-in-Quant.binder.variable c.in_ok-binder-in-Quant.binder.body.0 c.in_ok-inner-in-Quant.inner.0 _ (ap (λ (w : Var). is_left c.args.x.now (term_at c.args.store.now.terms c.args.by.0) w (sent_at c.args.store.now.sents c.in-Quant.body.0)) c.in_ok-own-in-Quant.ensures ∙ sym c.in_ok-left-in-Quant.ensures ∙ c.if-left.false) c.in_ok-binder-in-Quant.ensures.variable c.in_ok-binder-in-Quant.ensures.body (c.in_ok-binder-in-Quant.ensures.grows.same_terms c.args.by.0 c.requires.there) c.in_ok-inner-in-Quant.ensures.tree)
    (subst-sorted sig c.args.x.now (term_at c.args.store.now.terms c.args.by.0) (sent_at c.args.store.now.sents c.args.p.0) (fit-has sig c.args.store.now c.args.by.0 _ h c.requires.there fits) (h.sents c.args.p.0 c.requires.inside)))

pub put_sent-returns-then-sent_lacks-clause-tree : goal.put_sent-returns-then-sent_lacks-clause-tree
put_sent-returns-then-sent_lacks-clause-tree t c = (c.requires.inside, sym (subst-absent c.args.x.now (term_at c.args.store.now.terms c.args.by.0) (sent_at c.args.store.now.sents c.args.p.0) (c.sent_lacks.ensures c.if-sent_lacks.true)))

pub put_node-keep_small_sent-requires-clause-from : goal.put_node-keep_small_sent-requires-clause-from
put_node-keep_small_sent-requires-clause-from t c = (sent_node-kept c.args.store.now _ c.args.p.0 c.args.node.now c.in_ok-term-in-Atom.ensures.grows c.requires.inside c.requires.below c.requires.tree)

pub put_node-keep_small_sent-requires-in-Eq-clause-from : goal.put_node-keep_small_sent-requires-in-Eq-clause-from
put_node-keep_small_sent-requires-in-Eq-clause-from t c = (sent_node-kept c.args.store.now _ c.args.p.0 c.args.node.now (grows-then _ _ _ c.in_ok-left-in-Eq.ensures.grows c.in_ok-right-in-Eq.ensures.grows) c.requires.inside c.requires.below c.requires.tree)

pub put_node-keep_small_sent-requires-in-Conn-clause-from : goal.put_node-keep_small_sent-requires-in-Conn-clause-from
put_node-keep_small_sent-requires-in-Conn-clause-from t c = (sent_node-kept c.args.store.now _ c.args.p.0 c.args.node.now c.loop-i.invariant.grows c.requires.inside c.requires.below c.requires.tree)

pub put_node-keep_small_sent-requires-in-Quant-clause-from : goal.put_node-keep_small_sent-requires-in-Quant-clause-from
put_node-keep_small_sent-requires-in-Quant-clause-from t c = (sent_node-kept c.args.store.now _ c.args.p.0 c.args.node.now (grows-then _ _ _ c.in_ok-binder-in-Quant.ensures.grows c.in_ok-inner-in-Quant.ensures.grows) c.requires.inside c.requires.below c.requires.tree)

pub put_node-returns-in_ok-sent-in-Atom-clause-same : goal.put_node-returns-in_ok-sent-in-Atom-clause-same
put_node-returns-in_ok-sent-in-Atom-clause-same t c = λ left.
    let x = atom-stays (subst_sent c.args.x.now (term_at c.args.store.now.terms c.args.by.0)) (subst_term c.args.x.now (term_at c.args.store.now.terms c.args.by.0)) (put-maps c.args.x.now (term_at c.args.store.now.terms c.args.by.0)) c.args.store.now c.args.p.0 left _ c.in-Atom.t (atom_node c.args.store.now c.args.node.now c.args.node.now c.args.p.0 _ refl c.requires.tree c.requires.below c.in-Atom.t c.in-Atom.is) in
    let a = c.in_ok-term-in-Atom.ensures.same x in
    let r = c.in_ok-sent-in-Atom.ensures.same (c.in-Atom.is ∙ ap node.Atom (sym a.0)) in
    (r.0, r.1 ∙ a.1)

pub put_node-returns-in_ok-sent-in-Eq-clause-same : goal.put_node-returns-in_ok-sent-in-Eq-clause-same
put_node-returns-in_ok-sent-in-Eq-clause-same t c = λ left.
    let x = equation-stays (subst_sent c.args.x.now (term_at c.args.store.now.terms c.args.by.0)) (subst_term c.args.x.now (term_at c.args.store.now.terms c.args.by.0)) (put-maps c.args.x.now (term_at c.args.store.now.terms c.args.by.0)) c.args.store.now c.args.p.0 left _ c.in-Eq.s c.in-Eq.t (equation_node c.args.store.now c.args.node.now c.args.node.now c.args.p.0 _ refl c.requires.tree c.requires.below c.in-Eq.s c.in-Eq.t c.in-Eq.is) in
    let a = c.in_ok-left-in-Eq.ensures.same x.0 in
    let b = c.in_ok-right-in-Eq.ensures.same (subst (λ (z : Trees). subst_term c.args.x.now (term_at z.terms c.args.by.0) (term_at z.terms c.in-Eq.t.0) ≡ term_at z.terms c.in-Eq.t.0) (sym a.1) x.1) in
    let r = c.in_ok-sent-in-Eq.ensures.same (c.in-Eq.is ∙ (λ i. node.Eq (sym a.0 i) (sym b.0 i))) in
    (r.0, r.1 ∙ b.1 ∙ a.1)

pub put_node-returns-in_ok-sent-in-Conn-clause-same : goal.put_node-returns-in_ok-sent-in-Conn-clause-same
put_node-returns-in_ok-sent-in-Conn-clause-same t c = λ left.
    let a = conn-same (subst_sent c.args.x.now (term_at c.args.store.now.terms c.args.by.0)) (subst_term c.args.x.now (term_at c.args.store.now.terms c.args.by.0)) (put-maps c.args.x.now (term_at c.args.store.now.terms c.args.by.0)) c.args.store.now c.args.p.0 c.in-Conn.c c.in-Conn.ids c.as_slice-from.result.now (conn_node c.args.store.now c.args.node.now c.args.node.now c.args.p.0 _ refl c.requires.tree c.requires.below c.in-Conn.c c.in-Conn.ids c.in-Conn.is) c.as_slice-from.ensures c.loop-i.store c.loop-i.parts c.loop-i.i (record { 0 = 0 }) (omega arith) c.loop-i.invariant.same left in
    let r = c.in_ok-sent-in-Conn.ensures.same (c.in-Conn.is ∙ ap (node.Conn c.in-Conn.c) (sym a.0)) in
    (r.0, r.1 ∙ a.1)

pub put_node-returns-in_ok-sent-in-Quant-clause-same : goal.put_node-returns-in_ok-sent-in-Quant-clause-same
put_node-returns-in_ok-sent-in-Quant-clause-same t c = λ left.
    let b = bound-put-stays c.args.x.now (term_at c.args.store.now.terms c.args.by.0) c.args.store.now c.args.p.0 c.in-Quant.k c.in_ok-own-in-Quant.own c.in-Quant.body (bound_node c.args.store.now c.args.node.now c.args.node.now c.args.p.0 _ refl c.requires.tree c.requires.below c.in-Quant.k c.in_ok-own-in-Quant.own c.in-Quant.body (c.in-Quant.is ∙ ap (λ (w : Var). node.Quant c.in-Quant.k w c.in-Quant.body) (sym c.in_ok-own-in-Quant.ensures))) (ap (λ (w : Var). is_left c.args.x.now (term_at c.args.store.now.terms c.args.by.0) w (sent_at c.args.store.now.sents c.in-Quant.body.0)) c.in_ok-own-in-Quant.ensures ∙ sym c.in_ok-left-in-Quant.ensures ∙ c.if-left.false) left in
    let d = c.in_ok-binder-in-Quant.ensures.same b.unnamed in
    let x : subst_sent c.args.x.now (term_at c.args.store.now.terms c.args.by.0) (sent_at c.args.store.now.sents c.in_ok-binder-in-Quant.binder.body.0) ≡ sent_at c.args.store.now.sents c.in_ok-binder-in-Quant.binder.body.0 = rw d.0 b.body in
    let e = c.in_ok-inner-in-Quant.ensures.same (subst (λ (z : Trees). subst_sent c.args.x.now (term_at z.terms c.args.by.0) (sent_at z.sents c.in_ok-binder-in-Quant.binder.body.0) ≡ sent_at z.sents c.in_ok-binder-in-Quant.binder.body.0) (sym d.1) x) in
    let v = c.in_ok-binder-in-Quant.ensures.variable ∙ b.variable in
    let y = e.0 ∙ d.0 in
    let r = c.in_ok-sent-in-Quant.ensures.same ((c.in-Quant.is ∙ ap (λ (w : Var). node.Quant c.in-Quant.k w c.in-Quant.body) (sym c.in_ok-own-in-Quant.ensures)) ∙ (λ i. node.Quant c.in-Quant.k (sym v i) (sym y i))) in
    (r.0, r.1 ∙ e.1 ∙ d.1)
