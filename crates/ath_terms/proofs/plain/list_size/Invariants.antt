use Rattle.std.proofs.Common.{◌≡◌, ◌*◌, ◌≤◌}
use Rattle.ath_terms.proofs.ListLaws.{sizes_to}
use Rattle.ath_terms.proofs.plain.list_size.Given as goal

abbrev pub invariant-loop-i : goal.invariant-loop-i
invariant-loop-i l = (l.nodes ≡ sizes_to l.store.terms l.args l.i) × (l.nodes ≤ 100000 * l.i)
