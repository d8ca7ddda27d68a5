use Rattle.std.proofs.Common.{ℕ, ◌<◌}
use Rattle.ath_terms.specs.Trees.{sent_at}
use Rattle.ath_alpha.specs.Keys.{AreAlike}
use Rattle.ath_alpha.proofs.key.alpha_key.Given as goal

abbrev pub invariant-loop-i : goal.invariant-loop-i
invariant-loop-i l = (k : ℕ) → k < l.i → AreAlike (sent_at l.store.sents k) (sent_at l.store.sents l.p.0) → ⊥
