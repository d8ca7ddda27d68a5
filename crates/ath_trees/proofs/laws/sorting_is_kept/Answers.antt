use Rattle.ath_trees.proofs.Sorting.{subst-sorted, at_sorts-sorted, closed-sorted}
use Rattle.ath_trees.proofs.laws.sorting_is_kept.Goals as goal

pub returns : goal.returns
returns c = record {
  substituted = subst-sorted;
  at_sorts = λ sig f p valid ok w. at_sorts-sorted sig valid f ok p w;
  closed = closed-sorted;
}
