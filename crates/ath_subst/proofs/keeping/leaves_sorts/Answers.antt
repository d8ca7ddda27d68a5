use Rattle.std.proofs.Common.{arith}
use Rattle.ath_sorts.specs.Sorts.{apply_to, image}
use Rattle.ath_terms.proofs.SortVarLaws.{agree-next, sorts-left}
use Rattle.ath_subst.proofs.keeping.leaves_sorts.Goals as goal

pub loop-i-preserved : goal.loop-i-preserved
loop-i-preserved c = agree-next (apply_to (image c.args.subst.now)) (λ x. x) c.args.sorts.now c.loop-i.i c.index-sorts-i.result (omega arith) c.loop-i.invariant (rw (← c.index-sorts-i.is) (c.leaves_sort.ensures c.if-not-leaves_sort.false))

pub returns : goal.returns
returns c = λ _. sorts-left (apply_to (image c.args.subst.now)) c.args.sorts.now c.loop-i.i (omega arith) c.loop-i.invariant
