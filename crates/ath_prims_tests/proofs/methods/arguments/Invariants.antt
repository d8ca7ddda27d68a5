use Rattle.std.specs.List.{All}
use Rattle.ath_prims.specs.Stands.{IsArgument}
use Rattle.ath_prims_tests.proofs.methods.arguments.Given as goal

abbrev pub invariant-loop-i : goal.invariant-loop-i
invariant-loop-i l = All (IsArgument l.store) l.args.items
