use Rattle.std.proofs.Common.{sym}
use Rattle.ath_sorts.specs.Sorts.{image}
use Rattle.ath_terms.specs.Trees.{sent_at}
use Rattle.ath_trees.proofs.BinderLaws.{at_sorts-left}
use Rattle.ath_subst.proofs.sentences.sent_at_sorts.Goals as goal

pub returns-then-leaves_sent-clause-tree : goal.returns-then-leaves_sent-clause-tree
returns-then-leaves_sent-clause-tree c = (c.requires, sym (at_sorts-left (image c.args.subst.now) (sent_at c.args.store.now.sents c.args.p.0) (c.leaves_sent.ensures c.if-leaves_sent.true)))
