use Rattle.std.proofs.Common.{◌≡◌, drop}
use Rattle.std.specs.List.{list_any}
use Rattle.ath_sorts.specs.declared.sorts.SVar.TheVariants.{Written}
use Rattle.ath_sorts.specs.Sorts.{occurs}
use Rattle.ath_print.proofs.terms.is_unsaid.Given as goal

abbrev pub invariant-loop-arg : goal.invariant-loop-arg
invariant-loop-arg l = list_any (occurs (Written l.param)) l.args ≡ list_any (occurs (Written l.param)) (drop l.arg-index l.args)
