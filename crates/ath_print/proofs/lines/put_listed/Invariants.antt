use Rattle.std.proofs.Common.{◌≡◌, drop}
use Rattle.ath_print.specs.Printers.{word, line_in, after}
use Rattle.ath_print.specs.Lines.{listed_after}
use Rattle.ath_print.proofs.lines.put_listed.Given as goal

abbrev pub invariant-loop-n : goal.invariant-loop-n
invariant-loop-n l = after (word (listed_after l.names l.others)) (line_in l.initial.draft) ≡ after (word (listed_after l.names (drop l.n-index l.others))) (line_in l.draft)
