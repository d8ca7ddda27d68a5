use Rattle.std.proofs.Common.{◌≡◌, length}
use Rattle.ath_eval.specs.Applying.{kinds_of, variable_in}
use Rattle.ath_eval.specs.Arguments.{values_at}
use Rattle.ath_eval.proofs.KindLaws.{after_those, kinds_from}
use Rattle.ath_eval.proofs.kinds.as_variables.Given as goal

abbrev pub invariant-loop-arg : goal.invariant-loop-arg
invariant-loop-arg l = record {
  many : length l.vars.items ≡ l.arg-index;
  kinds : kinds_of variable_in 1 (values_at l.store l.args) ≡ after_those l.vars.items (kinds_from l.store l.arg-index l.args);
}
