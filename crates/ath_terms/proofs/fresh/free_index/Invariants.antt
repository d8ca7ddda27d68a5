use Rattle.std.proofs.Common.{◌≡◌, ◌<◌, ◌≤◌, ◌-◌, ◌+◌, ◌^◌, ℕ, true}
use Rattle.ath_terms.specs.Fresh.{is_taken}
use Rattle.ath_terms.proofs.fresh.free_index.Given as goal

abbrev pub invariant-loop-name : goal.invariant-loop-name
invariant-loop-name l = (l.counter ≤ l.index) × (l.index < 2 ^ 62 + 1) × ((k : ℕ) → l.counter ≤ k → k < l.index → is_taken l.taken l.name k ≡ true)

abbrev pub decreases-loop-name : goal.decreases-loop-name
decreases-loop-name l = 2 ^ 62 + 1 - l.index
