use Rattle.std.proofs.Common.{◌≡◌, drop, []}
use Rattle.std.specs.List.{flat_map}
use Rattle.ath_declarations.specs.Steps.{noting}
use Rattle.ath_declarations.specs.Texts.{written_in}
use Rattle.ath_declarations.proofs.params.written_over.Given as goal

abbrev pub invariant-loop-arg : goal.invariant-loop-arg
invariant-loop-arg l = noting l.seen.keys (flat_map written_in (drop l.arg-index l.args)) ≡ noting [] (flat_map written_in l.args)
