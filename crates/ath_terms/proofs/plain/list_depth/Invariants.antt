use Rattle.std.proofs.Common.{◌≡◌, ◌≤◌}
use Rattle.ath_terms.proofs.ListLaws.{depths_to}
use Rattle.ath_terms.proofs.plain.list_depth.Given as goal

abbrev pub invariant-loop-i : goal.invariant-loop-i
invariant-loop-i l = (l.levels ≡ depths_to l.store.terms l.args l.i) × (l.levels ≤ 2000)
