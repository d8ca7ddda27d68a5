use Rattle.std.proofs.Common.{◌≡◌, ◌-◌, ◌≤◌, length, drop}
use Rattle.ath_tokens.specs.Quoted.{plain, after, quoted}
use Rattle.ath_tokens.proofs.quoted.read_quoted.Given as goal

abbrev pub invariant-loop-at : goal.invariant-loop-at
invariant-loop-at l = (l.at ≤ length l.body) × (quoted plain l.body ≡ after l.at l.means.items (quoted plain (drop l.at l.body)))

abbrev pub decreases-loop-at : goal.decreases-loop-at
decreases-loop-at l = length l.body - l.at
