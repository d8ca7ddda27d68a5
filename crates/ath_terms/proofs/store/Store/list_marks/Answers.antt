use Rattle.std.proofs.Common.{arith}
use Rattle.ath_trees.specs.SortsIn.{has_small_sorts}
use Rattle.ath_trees.specs.Under.{term_under}
use Rattle.ath_trees.specs.Variables.{with_term}
use Rattle.ath_terms.specs.SortsIn.{IsSortedIn}
use Rattle.ath_terms.specs.Trees.{term_at}
use Rattle.ath_terms.proofs.MarkLaws.{marked-next}
use Rattle.ath_terms.proofs.store.Store.list_marks.Goals as goal

pub loop-i-preserved : goal.loop-i-preserved
loop-i-preserved c = marked-next with_term has_small_sorts term_under (λ sig. IsSortedIn sig c.args.self.now) (λ j. term_at c.args.self.now.terms j.0) c.args.args.now c.loop-i.i (record { 0 = 0 }) c.loop-i.marks c.marks.result c.with-marks.result (omega arith) c.loop-i.invariant c.marks.ensures.tree c.with-marks.ensures
