use Rattle.std.proofs.Common.{◌≡◌, drop, map}
use Rattle.ath_print.specs.Printers.{spaced, line_in, after}
use Rattle.ath_print.specs.Prefix.{sort_printed}
use Rattle.ath_print.proofs.sorts.+put_sort.Given as goal

abbrev pub invariant-loop-part : goal.invariant-loop-part
invariant-loop-part l = after (spaced (map (sort_printed l.names) (drop l.part-index l.parts))) (line_in l.draft) ≡ after (spaced (map (sort_printed l.names) l.parts)) (line_in l.initial.draft)
