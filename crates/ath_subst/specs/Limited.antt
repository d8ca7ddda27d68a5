-- The limits on a tree of so many nodes and levels.
use Rattle.std.specs.Prelude.{◌≡◌, ◌<◌, ◌≤◌, Result, Ok, Err}
use Rattle.ath_trees.specs.declared.limits.TheConstants.{MOST_TERM_NODES, MOST_TERM_LEVELS}
use Rattle.ath_subst.specs.declared.counts.Counts.{Counts}
use Rattle.ath_subst.specs.declared.error.SubstError.{SubstError}
use Rattle.ath_subst.specs.declared.error.SubstError.TheVariants.{TooLarge, TooDeep}

abbrev pub MatchLimited : Counts → Result (Unit {0}) SubstError → Type 0
MatchLimited c (Ok u) = (c.nodes ≤ MOST_TERM_NODES) × (c.levels ≤ MOST_TERM_LEVELS)
MatchLimited c (Err (TooLarge n)) = (MOST_TERM_NODES < c.nodes) × (n ≡ c.nodes)
MatchLimited c (Err (TooDeep n)) = (c.nodes ≤ MOST_TERM_NODES) × (MOST_TERM_LEVELS < c.levels) × (n ≡ c.levels)
MatchLimited c (Err e) = ⊥
