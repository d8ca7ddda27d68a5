-- The limits on one tree, and what is said of one above them.
use Rattle.std.specs.Prelude.{◌≡◌, ℕ, ◌<◌, ◌≤◌, Bool, true, false, Result, Ok, Err}
use Rattle.ath_trees.specs.declared.limits.TheConstants.{MOST_TERM_NODES, MOST_TERM_LEVELS}
use Rattle.ath_terms.specs.declared.measure.BuildError.{BuildError}
use Rattle.ath_terms.specs.declared.measure.BuildError.TheVariants.{TooLarge, TooDeep, SortTooLarge}

-- whether a tree's sorts are within the limits, and its nodes and levels
pub record Measure : Type 0 where
  pub small : Bool
  pub nodes : ℕ
  pub levels : ℕ

-- what the limits say of a tree of this measure
abbrev pub MatchMeasured : Measure → Result (Unit {0}) BuildError → Type 0
MatchMeasured m (Ok u) = (m.small ≡ true) × (m.nodes ≤ MOST_TERM_NODES) × (m.levels ≤ MOST_TERM_LEVELS)
MatchMeasured m (Err SortTooLarge) = m.small ≡ false
MatchMeasured m (Err (TooLarge n)) = (m.small ≡ true) × (MOST_TERM_NODES < m.nodes) × (n ≡ m.nodes)
MatchMeasured m (Err (TooDeep n)) = (m.small ≡ true) × (m.nodes ≤ MOST_TERM_NODES) × (MOST_TERM_LEVELS < m.levels) × (n ≡ m.levels)
MatchMeasured m (Err e) = ⊥
