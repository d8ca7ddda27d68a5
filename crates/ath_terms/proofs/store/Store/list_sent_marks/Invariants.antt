use Rattle.ath_trees.specs.SortsIn.{sent_has_small_sorts}
use Rattle.ath_trees.specs.Under.{sent_under}
use Rattle.ath_trees.specs.Variables.{with_sent}
use Rattle.ath_terms.specs.SortsIn.{IsSortedIn}
use Rattle.ath_terms.specs.Trees.{sent_at}
use Rattle.ath_terms.proofs.MarkLaws.{MarkedTo}
use Rattle.ath_terms.proofs.store.Store.list_sent_marks.Given as goal

abbrev pub invariant-loop-i : goal.invariant-loop-i
invariant-loop-i l = MarkedTo with_sent sent_has_small_sorts sent_under (λ sig. IsSortedIn sig l.self) (λ j. sent_at l.self.sents j.0) l.parts l.i l.marks
