use Rattle.ath_trees.specs.SortsIn.{has_small_sorts}
use Rattle.ath_trees.specs.Under.{term_under}
use Rattle.ath_trees.specs.Variables.{with_term}
use Rattle.ath_terms.specs.SortsIn.{IsSortedIn}
use Rattle.ath_terms.specs.Trees.{term_at}
use Rattle.ath_terms.proofs.MarkLaws.{MarkedTo}
use Rattle.ath_terms.proofs.store.Store.list_marks.Given as goal

abbrev pub invariant-loop-i : goal.invariant-loop-i
invariant-loop-i l = MarkedTo with_term has_small_sorts term_under (λ sig. IsSortedIn sig l.self) (λ j. term_at l.self.terms j.0) l.args l.i l.marks
