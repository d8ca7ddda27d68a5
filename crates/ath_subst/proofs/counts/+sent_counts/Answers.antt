use Rattle.std.proofs.Common.{◌+◌, max, refl, sym, ◌∙◌, ap, arith}
use Rattle.ath_terms.specs.Trees.{term_at, sent_at}
use Rattle.ath_trees.specs.Measure.{sent_size, sent_depth}
use Rattle.ath_trees.specs.Substitution.{subst_sent}
use Rattle.ath_trees.proofs.SubstForms.{subst-absent}
use Rattle.ath_subst.proofs.CountLaws.{nodes-next, nodes-fit, nodes-end, levels-next, levels-end, few_sent_nodes, few_sent_levels, put_conn-size, put_conn-depth, put_atom, put_equal, own-size, own-depth, inner-size, inner-depth}
use Rattle.ath_subst.proofs.SentLaws.{conn_node, bound_node, atom_node, equation_node}
use Rattle.ath_subst.proofs.counts.+sent_counts.Goals as goal

pub overflow_add-nodes : goal.overflow_add-nodes
overflow_add-nodes t c =
    let w = nodes-fit (λ j. sent_size (subst_sent c.args.x.now (term_at c.args.store.now.terms c.args.by.0) (sent_at c.args.store.now.sents j.0))) c.as_slice-parts.result.now c.loop-i.i c.loop-i.nodes c.sent_counts-part.result.nodes _ (record { 0 = 0 }) (omega arith) c.loop-i.invariant.nodes c.sent_counts-part.ensures.nodes (put_conn-size c.args.x.now (term_at c.args.store.now.terms c.args.by.0) c.args.store.now c.args.p.0 c.in-Conn.field-0 c.in-Conn.ids c.as_slice-parts.result.now (conn_node c.args.store.now c.sent.result.now c.sent.result.now c.args.p.0 _ refl c.sent.ensures.tree c.sent.ensures.below c.in-Conn.field-0 c.in-Conn.ids c.in-Conn.is) c.as_slice-parts.ensures) in
    let m = few_sent_nodes c.args.x.now (term_at c.args.store.now.terms c.args.by.0) (sent_at c.args.store.now.sents c.args.p.0) _ _ _ c.of_sent-own.ensures.nodes c.of_sent-own.ensures.few c.of_term-put.ensures.nodes c.of_term-put.ensures.few refl in
    omega (arith, w, m)

pub loop-i-preserved : goal.loop-i-preserved
loop-i-preserved t c = record {
  nodes = nodes-next (λ j. sent_size (subst_sent c.args.x.now (term_at c.args.store.now.terms c.args.by.0) (sent_at c.args.store.now.sents j.0))) c.as_slice-parts.result.now c.loop-i.i c.loop-i.nodes c.sent_counts-part.result.nodes (record { 0 = 0 }) (omega arith) c.loop-i.invariant.nodes c.sent_counts-part.ensures.nodes;
  levels = c.max-levels.ensures ∙ levels-next (λ j. sent_depth (subst_sent c.args.x.now (term_at c.args.store.now.terms c.args.by.0) (sent_at c.args.store.now.sents j.0))) c.as_slice-parts.result.now c.loop-i.i c.loop-i.levels c.sent_counts-part.result.levels (record { 0 = 0 }) (omega arith) c.loop-i.invariant.levels c.sent_counts-part.ensures.levels;
}

pub overflow_add-result-in-Conn : goal.overflow_add-result-in-Conn
overflow_add-result-in-Conn t c =
    let m = few_sent_levels c.args.x.now (term_at c.args.store.now.terms c.args.by.0) (sent_at c.args.store.now.sents c.args.p.0) _ _ _ c.of_sent-own.ensures.levels c.of_sent-own.ensures.shallow c.of_term-put.ensures.levels c.of_term-put.ensures.shallow (levels-end (λ j. sent_depth (subst_sent c.args.x.now (term_at c.args.store.now.terms c.args.by.0) (sent_at c.args.store.now.sents j.0))) c.as_slice-parts.result.now c.loop-i.i c.loop-i.levels _ (omega arith) c.loop-i.invariant.levels (put_conn-depth c.args.x.now (term_at c.args.store.now.terms c.args.by.0) c.args.store.now c.args.p.0 c.in-Conn.field-0 c.in-Conn.ids c.as_slice-parts.result.now (conn_node c.args.store.now c.sent.result.now c.sent.result.now c.args.p.0 _ refl c.sent.ensures.tree c.sent.ensures.below c.in-Conn.field-0 c.in-Conn.ids c.in-Conn.is) c.as_slice-parts.ensures)) in
    omega (arith, m)

pub returns-then-is_same_var-clause-nodes : goal.returns-then-is_same_var-clause-nodes
returns-then-is_same_var-clause-nodes t c = c.of_sent-own.ensures.nodes ∙ own-size c.args.x.now (term_at c.args.store.now.terms c.args.by.0) c.args.store.now c.args.p.0 c.in-Quant.field-0 c.in-Quant.v c.in-Quant.body (bound_node c.args.store.now c.sent.result.now c.sent.result.now c.args.p.0 _ refl c.sent.ensures.tree c.sent.ensures.below c.in-Quant.field-0 c.in-Quant.v c.in-Quant.body c.in-Quant.is) (sym c.is_same_var.ensures ∙ c.if-is_same_var.true)

pub returns-then-is_same_var-clause-levels : goal.returns-then-is_same_var-clause-levels
returns-then-is_same_var-clause-levels t c = c.of_sent-own.ensures.levels ∙ own-depth c.args.x.now (term_at c.args.store.now.terms c.args.by.0) c.args.store.now c.args.p.0 c.in-Quant.field-0 c.in-Quant.v c.in-Quant.body (bound_node c.args.store.now c.sent.result.now c.sent.result.now c.args.p.0 _ refl c.sent.ensures.tree c.sent.ensures.below c.in-Quant.field-0 c.in-Quant.v c.in-Quant.body c.in-Quant.is) (sym c.is_same_var.ensures ∙ c.if-is_same_var.true)

pub returns-in-Atom-clause-nodes : goal.returns-in-Atom-clause-nodes
returns-in-Atom-clause-nodes t c = c.term_counts.ensures.nodes ∙ sym (ap sent_size (put_atom c.args.x.now (term_at c.args.store.now.terms c.args.by.0) c.args.store.now c.args.p.0 _ c.in-Atom.t (atom_node c.args.store.now c.sent.result.now c.sent.result.now c.args.p.0 _ refl c.sent.ensures.tree c.sent.ensures.below c.in-Atom.t c.in-Atom.is)))

pub returns-in-Atom-clause-levels : goal.returns-in-Atom-clause-levels
returns-in-Atom-clause-levels t c = c.term_counts.ensures.levels ∙ sym (ap sent_depth (put_atom c.args.x.now (term_at c.args.store.now.terms c.args.by.0) c.args.store.now c.args.p.0 _ c.in-Atom.t (atom_node c.args.store.now c.sent.result.now c.sent.result.now c.args.p.0 _ refl c.sent.ensures.tree c.sent.ensures.below c.in-Atom.t c.in-Atom.is)))

pub returns-in-Eq-clause-few : goal.returns-in-Eq-clause-few
returns-in-Eq-clause-few t c = few_sent_nodes c.args.x.now (term_at c.args.store.now.terms c.args.by.0) (sent_at c.args.store.now.sents c.args.p.0) _ _ _ c.of_sent-own.ensures.nodes c.of_sent-own.ensures.few c.of_term-put.ensures.nodes c.of_term-put.ensures.few ((λ i. 1 + c.term_counts-left.ensures.nodes i + c.term_counts-right.ensures.nodes i) ∙ sym (ap sent_size (put_equal c.args.x.now (term_at c.args.store.now.terms c.args.by.0) c.args.store.now c.args.p.0 _ c.in-Eq.s c.in-Eq.t (equation_node c.args.store.now c.sent.result.now c.sent.result.now c.args.p.0 _ refl c.sent.ensures.tree c.sent.ensures.below c.in-Eq.s c.in-Eq.t c.in-Eq.is))))

pub returns-in-Eq-clause-shallow : goal.returns-in-Eq-clause-shallow
returns-in-Eq-clause-shallow t c = few_sent_levels c.args.x.now (term_at c.args.store.now.terms c.args.by.0) (sent_at c.args.store.now.sents c.args.p.0) _ _ _ c.of_sent-own.ensures.levels c.of_sent-own.ensures.shallow c.of_term-put.ensures.levels c.of_term-put.ensures.shallow (ap (λ n. 1 + n) c.max.ensures ∙ (λ i. 1 + max (c.term_counts-left.ensures.levels i) (c.term_counts-right.ensures.levels i)) ∙ sym (ap sent_depth (put_equal c.args.x.now (term_at c.args.store.now.terms c.args.by.0) c.args.store.now c.args.p.0 _ c.in-Eq.s c.in-Eq.t (equation_node c.args.store.now c.sent.result.now c.sent.result.now c.args.p.0 _ refl c.sent.ensures.tree c.sent.ensures.below c.in-Eq.s c.in-Eq.t c.in-Eq.is))))

pub returns-after-loop-i-clause-nodes : goal.returns-after-loop-i-clause-nodes
returns-after-loop-i-clause-nodes t c = (nodes-end (λ j. sent_size (subst_sent c.args.x.now (term_at c.args.store.now.terms c.args.by.0) (sent_at c.args.store.now.sents j.0))) c.as_slice-parts.result.now c.loop-i.i c.loop-i.nodes _ (omega arith) c.loop-i.invariant.nodes (put_conn-size c.args.x.now (term_at c.args.store.now.terms c.args.by.0) c.args.store.now c.args.p.0 c.in-Conn.field-0 c.in-Conn.ids c.as_slice-parts.result.now (conn_node c.args.store.now c.sent.result.now c.sent.result.now c.args.p.0 _ refl c.sent.ensures.tree c.sent.ensures.below c.in-Conn.field-0 c.in-Conn.ids c.in-Conn.is) c.as_slice-parts.ensures))

pub returns-after-loop-i-clause-levels : goal.returns-after-loop-i-clause-levels
returns-after-loop-i-clause-levels t c = (levels-end (λ j. sent_depth (subst_sent c.args.x.now (term_at c.args.store.now.terms c.args.by.0) (sent_at c.args.store.now.sents j.0))) c.as_slice-parts.result.now c.loop-i.i c.loop-i.levels _ (omega arith) c.loop-i.invariant.levels (put_conn-depth c.args.x.now (term_at c.args.store.now.terms c.args.by.0) c.args.store.now c.args.p.0 c.in-Conn.field-0 c.in-Conn.ids c.as_slice-parts.result.now (conn_node c.args.store.now c.sent.result.now c.sent.result.now c.args.p.0 _ refl c.sent.ensures.tree c.sent.ensures.below c.in-Conn.field-0 c.in-Conn.ids c.in-Conn.is) c.as_slice-parts.ensures))

pub returns-after-loop-i-clause-few : goal.returns-after-loop-i-clause-few
returns-after-loop-i-clause-few t c = few_sent_nodes c.args.x.now (term_at c.args.store.now.terms c.args.by.0) (sent_at c.args.store.now.sents c.args.p.0) _ _ _ c.of_sent-own.ensures.nodes c.of_sent-own.ensures.few c.of_term-put.ensures.nodes c.of_term-put.ensures.few (nodes-end (λ j. sent_size (subst_sent c.args.x.now (term_at c.args.store.now.terms c.args.by.0) (sent_at c.args.store.now.sents j.0))) c.as_slice-parts.result.now c.loop-i.i c.loop-i.nodes _ (omega arith) c.loop-i.invariant.nodes (put_conn-size c.args.x.now (term_at c.args.store.now.terms c.args.by.0) c.args.store.now c.args.p.0 c.in-Conn.field-0 c.in-Conn.ids c.as_slice-parts.result.now (conn_node c.args.store.now c.sent.result.now c.sent.result.now c.args.p.0 _ refl c.sent.ensures.tree c.sent.ensures.below c.in-Conn.field-0 c.in-Conn.ids c.in-Conn.is) c.as_slice-parts.ensures))

pub returns-after-loop-i-clause-shallow : goal.returns-after-loop-i-clause-shallow
returns-after-loop-i-clause-shallow t c = few_sent_levels c.args.x.now (term_at c.args.store.now.terms c.args.by.0) (sent_at c.args.store.now.sents c.args.p.0) _ _ _ c.of_sent-own.ensures.levels c.of_sent-own.ensures.shallow c.of_term-put.ensures.levels c.of_term-put.ensures.shallow (levels-end (λ j. sent_depth (subst_sent c.args.x.now (term_at c.args.store.now.terms c.args.by.0) (sent_at c.args.store.now.sents j.0))) c.as_slice-parts.result.now c.loop-i.i c.loop-i.levels _ (omega arith) c.loop-i.invariant.levels (put_conn-depth c.args.x.now (term_at c.args.store.now.terms c.args.by.0) c.args.store.now c.args.p.0 c.in-Conn.field-0 c.in-Conn.ids c.as_slice-parts.result.now (conn_node c.args.store.now c.sent.result.now c.sent.result.now c.args.p.0 _ refl c.sent.ensures.tree c.sent.ensures.below c.in-Conn.field-0 c.in-Conn.ids c.in-Conn.is) c.as_slice-parts.ensures))

pub returns-else-is_same_var-clause-nodes : goal.returns-else-is_same_var-clause-nodes
returns-else-is_same_var-clause-nodes t c = (inner-size c.args.x.now (term_at c.args.store.now.terms c.args.by.0) c.args.store.now c.args.p.0 c.in-Quant.field-0 c.in-Quant.v c.in-Quant.body (bound_node c.args.store.now c.sent.result.now c.sent.result.now c.args.p.0 _ refl c.sent.ensures.tree c.sent.ensures.below c.in-Quant.field-0 c.in-Quant.v c.in-Quant.body c.in-Quant.is) c.sent_counts-inner.result.nodes (sym c.is_same_var.ensures ∙ c.if-is_same_var.false) c.sent_counts-inner.ensures.nodes)

pub returns-else-is_same_var-clause-levels : goal.returns-else-is_same_var-clause-levels
returns-else-is_same_var-clause-levels t c = (inner-depth c.args.x.now (term_at c.args.store.now.terms c.args.by.0) c.args.store.now c.args.p.0 c.in-Quant.field-0 c.in-Quant.v c.in-Quant.body (bound_node c.args.store.now c.sent.result.now c.sent.result.now c.args.p.0 _ refl c.sent.ensures.tree c.sent.ensures.below c.in-Quant.field-0 c.in-Quant.v c.in-Quant.body c.in-Quant.is) c.sent_counts-inner.result.levels (sym c.is_same_var.ensures ∙ c.if-is_same_var.false) c.sent_counts-inner.ensures.levels)

pub returns-else-is_same_var-clause-few : goal.returns-else-is_same_var-clause-few
returns-else-is_same_var-clause-few t c = few_sent_nodes c.args.x.now (term_at c.args.store.now.terms c.args.by.0) (sent_at c.args.store.now.sents c.args.p.0) _ _ _ c.of_sent-own.ensures.nodes c.of_sent-own.ensures.few c.of_term-put.ensures.nodes c.of_term-put.ensures.few (inner-size c.args.x.now (term_at c.args.store.now.terms c.args.by.0) c.args.store.now c.args.p.0 c.in-Quant.field-0 c.in-Quant.v c.in-Quant.body (bound_node c.args.store.now c.sent.result.now c.sent.result.now c.args.p.0 _ refl c.sent.ensures.tree c.sent.ensures.below c.in-Quant.field-0 c.in-Quant.v c.in-Quant.body c.in-Quant.is) c.sent_counts-inner.result.nodes (sym c.is_same_var.ensures ∙ c.if-is_same_var.false) c.sent_counts-inner.ensures.nodes)

pub returns-else-is_same_var-clause-shallow : goal.returns-else-is_same_var-clause-shallow
returns-else-is_same_var-clause-shallow t c = few_sent_levels c.args.x.now (term_at c.args.store.now.terms c.args.by.0) (sent_at c.args.store.now.sents c.args.p.0) _ _ _ c.of_sent-own.ensures.levels c.of_sent-own.ensures.shallow c.of_term-put.ensures.levels c.of_term-put.ensures.shallow (inner-depth c.args.x.now (term_at c.args.store.now.terms c.args.by.0) c.args.store.now c.args.p.0 c.in-Quant.field-0 c.in-Quant.v c.in-Quant.body (bound_node c.args.store.now c.sent.result.now c.sent.result.now c.args.p.0 _ refl c.sent.ensures.tree c.sent.ensures.below c.in-Quant.field-0 c.in-Quant.v c.in-Quant.body c.in-Quant.is) c.sent_counts-inner.result.levels (sym c.is_same_var.ensures ∙ c.if-is_same_var.false) c.sent_counts-inner.ensures.levels)

pub returns-then-sent_lacks-clause-nodes : goal.returns-then-sent_lacks-clause-nodes
returns-then-sent_lacks-clause-nodes t c = c.of_sent-own.ensures.nodes ∙ ap sent_size (sym (subst-absent c.args.x.now (term_at c.args.store.now.terms c.args.by.0) (sent_at c.args.store.now.sents c.args.p.0) (c.sent_lacks.ensures c.if-sent_lacks.true)))

pub returns-then-sent_lacks-clause-levels : goal.returns-then-sent_lacks-clause-levels
returns-then-sent_lacks-clause-levels t c = c.of_sent-own.ensures.levels ∙ ap sent_depth (sym (subst-absent c.args.x.now (term_at c.args.store.now.terms c.args.by.0) (sent_at c.args.store.now.sents c.args.p.0) (c.sent_lacks.ensures c.if-sent_lacks.true)))
