use Rattle.std.proofs.Common.{refl}
use Rattle.ath_trees.specs.WellSorted.{var_has}
use Rattle.ath_eval.proofs.names.variable_of.Goals as goal

pub invariant_of-w-clause-sorted : goal.invariant_of-w-clause-sorted
invariant_of-w-clause-sorted c = let w = c.args.w.now in c.var.ensures.sorted w.sig w.sorted (var_has c.requires refl)
