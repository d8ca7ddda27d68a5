use Rattle.ath_print_tests.proofs.EmptyStore.{empty_sorted}
use Rattle.ath_print_tests.proofs.lines.expect_plain.Goals as goal

pub expect_line-requires-clause-inside : goal.expect_line-requires-clause-inside
expect_line-requires-clause-inside g c = c.requires c.new-store.result

pub expect_line-requires-clause-sorted : goal.expect_line-requires-clause-sorted
expect_line-requires-clause-sorted g c = empty_sorted c.in_ok-sig.sig c.new-store.result c.in_ok-sig.ensures c.new-store.ensures
