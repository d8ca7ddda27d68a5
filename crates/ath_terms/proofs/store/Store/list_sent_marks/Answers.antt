use Rattle.std.proofs.Common.{arith}
use Rattle.ath_trees.specs.SortsIn.{sent_has_small_sorts}
use Rattle.ath_trees.specs.Under.{sent_under}
use Rattle.ath_trees.specs.Variables.{with_sent}
use Rattle.ath_terms.specs.SortsIn.{IsSortedIn}
use Rattle.ath_terms.specs.Trees.{sent_at}
use Rattle.ath_terms.proofs.MarkLaws.{marked-next}
use Rattle.ath_terms.proofs.store.Store.list_sent_marks.Goals as goal

pub loop-i-preserved : goal.loop-i-preserved
loop-i-preserved c = marked-next with_sent sent_has_small_sorts sent_under (λ sig. IsSortedIn sig c.args.self.now) (λ j. sent_at c.args.self.now.sents j.0) c.args.parts.now c.loop-i.i (record { 0 = 0 }) c.loop-i.marks c.sent_marks.result c.with-marks.result (omega arith) c.loop-i.invariant c.sent_marks.ensures c.with-marks.ensures
