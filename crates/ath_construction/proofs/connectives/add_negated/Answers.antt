use Rattle.std.proofs.Common.{◌+◌, sym, ◌∙◌, ap}
use Rattle.ath_sorts.specs.Sorts.{image}
use Rattle.ath_trees.specs.Tree.{negated}
use Rattle.ath_terms.specs.Trees.{sent_at}
use Rattle.ath_trees.proofs.SortUnderForms.{at_sorts-negated}
use Rattle.ath_construction.proofs.MeasureLaws.{negated-kept}
use Rattle.ath_construction.proofs.connectives.add_negated.Goals as goal

pub add_sent-requires-clause-kept : goal.add_sent-requires-clause-kept
add_sent-requires-clause-kept c = rw (c.in_ok-push.ensures.ok, c.new-parts.ensures)
    (negated-kept (image c.args.subst.now) (sent_at c.args.store.now.sents c.args.p.0) _ _ _ (ap negated c.in_ok-part.ensures.tree.1) (ap (λ k. 1 + k) c.sent_size-nodes.ensures.same) (ap (λ k. 1 + k) c.sent_depth-levels.ensures.same) c.requires.small)

pub returns-clause-tree : goal.returns-clause-tree
returns-clause-tree c =
    let r = c.in_ok-sent.ensures.tree in
    (r.0, r.1 ∙ rw (c.in_ok-push.ensures.ok, c.new-parts.ensures) (ap negated c.in_ok-part.ensures.tree.1 ∙ sym (at_sorts-negated (image c.args.subst.now) (sent_at c.args.store.now.sents c.args.p.0))))
