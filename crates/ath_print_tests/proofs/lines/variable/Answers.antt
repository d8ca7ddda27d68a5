use Rattle.std.proofs.Common.{refl}
use Rattle.ath_print_tests.proofs.EmptyStore.{variable_has}
use Rattle.ath_print_tests.proofs.lines.variable.Goals as goal

pub returns-clause-sorted : goal.returns-clause-sorted
returns-clause-sorted c = c.var.ensures.sorted c.args.sig.now c.requires (variable_has c.args.sig.now c.args.store.now.terms _ c.args.sort refl)
