use Rattle.ath_sorts.specs.Sorts.{image}
use Rattle.ath_terms.specs.Trees.{sent_at}
use Rattle.ath_subst.proofs.KeepingLaws.{small_sent-kept}
use Rattle.ath_subst.proofs.keeping.keeps_small_sent.Goals as goal

pub returns : goal.returns
returns c = λ e sig h. small_sent-kept c.args.store.now (sent_at c.args.store.now.sents c.args.p.0) (image c.args.subst.now) c.sent_marks-marks.result sig c.sent_marks-marks.ensures c.if-not-marks.false (c.are_left.ensures e) h
