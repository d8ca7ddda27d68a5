use Rattle.std.proofs.Common.{◌+◌, ap}
use Rattle.ath_sorts.specs.Sorts.{image}
use Rattle.ath_trees.specs.Tree.{bound}
use Rattle.ath_terms.specs.Trees.{sent_at}
use Rattle.ath_construction.proofs.MeasureLaws.{bound-kept}
use Rattle.ath_construction.proofs.QuantifierLaws.{quantifier-sorted}
use Rattle.ath_construction.proofs.quantifiers.add_quantifier.Goals as goal

pub add_sent-requires-clause-kept : goal.add_sent-requires-clause-kept
add_sent-requires-clause-kept c = bound-kept (image c.args.subst.now) c.args.q c.args.v.now (sent_at c.args.store.now.sents c.args.body.0) _ _ _
    (λ i. bound c.args.q (c.in_ok-variable.ensures i) (c.in_ok-inner.ensures.tree.1 i))
    (ap (λ n. 1 + n) c.sent_size-nodes.ensures.same) (ap (λ n. 1 + n) c.sent_depth-levels.ensures.same) c.requires.small

pub returns-clause-sorted : goal.returns-clause-sorted
returns-clause-sorted c = λ sig h ok s. c.in_ok-sent.ensures.sorted sig (c.in_ok-inner.ensures.sorted sig h ok)
    (quantifier-sorted sig (image c.args.subst.now) c.args.q c.args.v.now (sent_at c.args.store.now.sents c.args.body.0) _ h.valid ok s (h.sents c.args.body.0 c.requires.inside)
    (λ i. bound c.args.q (c.in_ok-variable.ensures i) (c.in_ok-inner.ensures.tree.1 i)))
