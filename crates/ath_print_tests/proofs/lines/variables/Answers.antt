use Rattle.ath_print_tests.proofs.EmptyStore.{empty_sorted}
use Rattle.ath_print_tests.proofs.lines.variables.Goals as goal

pub variable-requires : goal.variable-requires
variable-requires g c = empty_sorted c.in_ok-sig.sig c.new-store.result c.in_ok-sig.ensures c.new-store.ensures
