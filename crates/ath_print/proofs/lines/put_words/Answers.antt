use Rattle.ath_print.proofs.LineLaws.{told_by}
use Rattle.ath_print.proofs.lines.put_words.Goals as goal

pub returns : goal.returns
returns c = told_by c.args.draft.now c.requires.fresh _ _ c.in_ok-put_both.ensures
