use Rattle.ath_print.proofs.LineLaws.{ended}
use Rattle.ath_print.proofs.lines.written.Goals as goal

pub returns : goal.returns
returns c = ended c.args.output c.put.new.draft.output c.new.result.items c.put.new.draft.seen.items _ _ _ c.new.ensures.items c.in_ok-put_event.ensures c.in_ok-put.ensures
