use Rattle.std.proofs.Common.{sym, ◌∙◌}
use Rattle.ath_sorts.specs.Sorts.{image}
use Rattle.ath_terms.specs.Trees.{sent_at}
use Rattle.ath_trees.proofs.BinderLaws.{at_sorts-small}
use Rattle.ath_subst.proofs.sentences.is_sent_within.Goals as goal

pub returns : goal.returns
returns c = λ sig h. c.has_small_images.ensures sig h ∙ sym (at_sorts-small sig (image c.args.subst.now) (sent_at c.args.store.now.sents c.args.p.0))
