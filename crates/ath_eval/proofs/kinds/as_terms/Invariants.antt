use Rattle.std.proofs.Common.{◌≡◌, ◌++◌, drop, map}
use Rattle.ath_env.specs.declared.value.Value.TheVariants as code
use Rattle.ath_eval.proofs.kinds.as_terms.Given as goal

abbrev pub invariant-loop-arg : goal.invariant-loop-arg
invariant-loop-arg l = l.args ≡ map (λ t. code.Term t) l.ids.items ++ drop l.arg-index l.args
