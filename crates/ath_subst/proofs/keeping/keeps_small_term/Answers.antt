use Rattle.ath_sorts.specs.Sorts.{image}
use Rattle.ath_subst.proofs.KeepingLaws.{small-kept}
use Rattle.ath_subst.proofs.keeping.keeps_small_term.Goals as goal

pub returns : goal.returns
returns c = λ e sig h. small-kept c.args.store.now c.args.t.0 (image c.args.subst.now) c.marks-marks.result sig c.marks-marks.ensures c.if-not-marks.false (c.are_left.ensures e) h
