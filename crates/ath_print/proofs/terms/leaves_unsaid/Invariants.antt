use Rattle.std.proofs.Common.{◌≡◌, drop}
use Rattle.std.specs.List.{list_any}
use Rattle.ath_print.specs.Prefix.{is_unsaid}
use Rattle.ath_print.proofs.terms.leaves_unsaid.Given as goal

abbrev pub invariant-loop-param : goal.invariant-loop-param
invariant-loop-param l = list_any (is_unsaid l.symbol.args) l.param-items ≡ list_any (is_unsaid l.symbol.args) (drop l.param-index l.param-items)
