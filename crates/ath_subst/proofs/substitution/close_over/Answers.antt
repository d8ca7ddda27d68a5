use Rattle.std.proofs.Common.{◌+◌, refl, ◌∙◌}
use Rattle.std.proofs.lemmas.Result.{err_from_is_err_and}
use Rattle.ath_terms.specs.Trees.{sent_at}
use Rattle.ath_trees.specs.Closing.{closing, closed_over}
use Rattle.ath_subst.proofs.GivenLaws.{refused-at, given-at, kept-at, closed-nodes, closed-levels, closing-small, closing-tree}
use Rattle.ath_subst.proofs.substitution.close_over.Goals as goal

pub returns-in_err-check_counts-clause-built : goal.returns-in_err-check_counts-clause-built
returns-in_err-check_counts-clause-built c =
    let p = err_from_is_err_and c.from_residual.result c.from_residual.ensures.1 in
    rw (p.1, p.2) (refused-at (closed_over c.args.q c.args.x.now (sent_at c.args.store.now.sents c.args.p.0)) (record { nodes = 1 + c.sent_size.result; levels = 1 + c.sent_depth.result }) _ _ _ (closed-nodes c.args.store.now c.args.q c.args.x.now (closing c.args.x.now (sent_at c.args.store.now.sents c.args.p.0)) c.args.p.0 refl c.sent_size.result c.sent_size.ensures.same) (closed-levels c.args.store.now c.args.q c.args.x.now (closing c.args.x.now (sent_at c.args.store.now.sents c.args.p.0)) c.args.p.0 refl c.sent_depth.result c.sent_depth.ensures.same) c.in_err-check_counts.ensures)

pub put_sent-requires-clause-small : goal.put_sent-requires-clause-small
put_sent-requires-clause-small c = closing-small c.args.store.now c.args.q c.args.x.now c.in_ok-variable.variable c.args.p.0 c.in_ok-variable.ensures c.add_var.new.store c.in_ok-term.term.0 c.in_ok-term.ensures.grows c.requires c.in_ok-term.ensures.tree.0 c.sent_size.result c.sent_depth.result c.sent_size.ensures.same c.sent_depth.ensures.same c.in_ok-check_counts.ensures.0 c.in_ok-check_counts.ensures.1

pub add_sent-requires-clause-kept : goal.add_sent-requires-clause-kept
add_sent-requires-clause-kept c = kept-at (closed_over c.args.q c.args.x.now (sent_at c.args.store.now.sents c.args.p.0)) _ _ _ (closing-tree c.args.store.now c.args.q c.args.x.now c.in_ok-variable.variable c.args.p.0 c.in_ok-variable.ensures c.add_var.new.store c.in_ok-term.term.0 c.in_ok-term.ensures.grows c.requires c.in_ok-term.ensures.tree.0 c.put_sent.new.store c.in_ok-body.body.0 c.in_ok-body.ensures.tree) (closed-nodes c.args.store.now c.args.q c.args.x.now c.in_ok-variable.variable c.args.p.0 c.in_ok-variable.ensures c.sent_size.result c.sent_size.ensures.same) (closed-levels c.args.store.now c.args.q c.args.x.now c.in_ok-variable.variable c.args.p.0 c.in_ok-variable.ensures c.sent_depth.result c.sent_depth.ensures.same) c.in_ok-check_counts.ensures.0 c.in_ok-check_counts.ensures.1

pub returns-clause-built : goal.returns-clause-built
returns-clause-built c =
    let r = c.in_ok-sent.ensures.tree in
    ((closed_over c.args.q c.args.x.now (sent_at c.args.store.now.sents c.args.p.0)), (given-at (closed_over c.args.q c.args.x.now (sent_at c.args.store.now.sents c.args.p.0)) (record { nodes = 1 + c.sent_size.result; levels = 1 + c.sent_depth.result }) _ _ (closed-nodes c.args.store.now c.args.q c.args.x.now c.in_ok-variable.variable c.args.p.0 c.in_ok-variable.ensures c.sent_size.result c.sent_size.ensures.same) (closed-levels c.args.store.now c.args.q c.args.x.now c.in_ok-variable.variable c.args.p.0 c.in_ok-variable.ensures c.sent_depth.result c.sent_depth.ensures.same) c.in_ok-check_counts.ensures.0 c.in_ok-check_counts.ensures.1, (r.0, r.1 ∙ (closing-tree c.args.store.now c.args.q c.args.x.now c.in_ok-variable.variable c.args.p.0 c.in_ok-variable.ensures c.add_var.new.store c.in_ok-term.term.0 c.in_ok-term.ensures.grows c.requires c.in_ok-term.ensures.tree.0 c.put_sent.new.store c.in_ok-body.body.0 c.in_ok-body.ensures.tree))))
