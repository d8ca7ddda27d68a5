use Rattle.std.proofs.Common.{◌≡◌, drop, map}
use Rattle.ath_print.specs.declared.fault.FaultArg.{FaultArg}
use Rattle.ath_print.specs.Printers.{spaced, line_in, after}
use Rattle.ath_print.specs.Lines.{argument_printed}
use Rattle.ath_print.specs.Stands.{argument_of}
use Rattle.ath_print.proofs.lines.put_arguments.Given as goal

abbrev pub invariant-loop-arg : goal.invariant-loop-arg
invariant-loop-arg l = after (spaced (map (λ (a : FaultArg). argument_printed l.names l.sig (argument_of l.store a)) (drop l.arg-index l.arg-items))) (line_in l.draft) ≡ after (spaced (map (λ (a : FaultArg). argument_printed l.names l.sig (argument_of l.store a)) l.arg-items)) (line_in l.initial.draft)
