use Rattle.ath_print_tests.proofs.EmptyStore.{empty_sorted}
use Rattle.ath_print_tests.proofs.lines.bytes_without_names_of_files.Goals as goal

pub line_bytes-requires-clause-sorted : goal.line_bytes-requires-clause-sorted
line_bytes-requires-clause-sorted g c = empty_sorted c.in_ok-sig.sig c.new-store.result c.in_ok-sig.ensures c.new-store.ensures
