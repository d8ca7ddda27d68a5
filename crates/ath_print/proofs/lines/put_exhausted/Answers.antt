use Rattle.ath_print.proofs.LineLaws.{told_words}
use Rattle.ath_print.proofs.lines.put_exhausted.Goals as goal

pub returns : goal.returns
returns c = told_words c.args.draft.now c.requires.fresh _ _ _ _ _ _ c.in_ok-put.ensures c.in_ok-put_place.ensures c.in_ok-put-2.ensures
