use Rattle.ath_trees.proofs.SortUnderLaws.{at_sorts_moved}
use Rattle.ath_trees.proofs.laws.sorts_under_binders.Goals as goal

pub returns : goal.returns
returns c = at_sorts_moved
