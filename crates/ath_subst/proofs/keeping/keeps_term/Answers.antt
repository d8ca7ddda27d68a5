use Rattle.ath_sorts.specs.Sorts.{image}
use Rattle.ath_subst.proofs.KeepingLaws.{term-kept}
use Rattle.ath_subst.proofs.keeping.keeps_term.Goals as goal

pub returns : goal.returns
returns c = λ e. term-kept c.args.store.now c.args.t.0 (image c.args.subst.now) c.marks-marks.result c.marks-marks.ensures (c.are_left.ensures e)
