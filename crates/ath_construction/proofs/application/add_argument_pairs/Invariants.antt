use Rattle.std.proofs.Common.{◌≡◌}
use Rattle.ath_construction.proofs.ArgumentLaws.{arguments_to}
use Rattle.ath_construction.proofs.application.add_argument_pairs.Given as goal

abbrev pub invariant-loop-i : goal.invariant-loop-i
invariant-loop-i l = l.pairs.items ≡ arguments_to l.fn.pairs.items l.store l.declared l.args l.i
