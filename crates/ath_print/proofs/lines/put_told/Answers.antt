use Rattle.ath_print.proofs.LineLaws.{told_two}
use Rattle.ath_print.proofs.lines.put_told.Goals as goal

pub returns : goal.returns
returns c = told_two c.args.draft.now c.requires.fresh _ _ _ _ c.in_ok-put.ensures c.in_ok-put_closed.ensures
