-- What is said of a sentence that is built from a node: where it has too many nodes, their number is told, else that of its
-- levels.
use Rattle.std.specs.Prelude.{◌≡◌, ◌<◌, ◌≤◌, Result, Ok, Err}
use Rattle.ath_trees.specs.declared.limits.TheConstants.{MOST_TERM_NODES, MOST_TERM_LEVELS}
use Rattle.ath_trees.specs.declared.node.SentId.{SentId}
use Rattle.ath_terms.specs.declared.measure.BuildError.{BuildError}
use Rattle.ath_terms.specs.declared.measure.BuildError.TheVariants.{SortClash, ArgCount, NotBoolean, TooLarge, TooDeep, SortTooLarge, Memory}
use Rattle.ath_trees.specs.Tree.{Sent}
use Rattle.ath_trees.specs.Measure.{sent_size, sent_depth, IsSmall}
use Rattle.ath_terms.specs.Trees.{Trees, IsSent}

abbrev pub IsBuilt : Trees → Result SentId BuildError → Sent → Type 0
IsBuilt s (Ok p) x = IsSent s p.0 x × IsSmall x
IsBuilt s (Err (TooLarge n)) x = (MOST_TERM_NODES < sent_size x) × (n ≡ sent_size x)
IsBuilt s (Err (TooDeep n)) x = (sent_size x ≤ MOST_TERM_NODES) × (MOST_TERM_LEVELS < sent_depth x) × (n ≡ sent_depth x)
IsBuilt s (Err Memory) x = Unit {0}
IsBuilt s (Err (SortClash a b)) x = ⊥
IsBuilt s (Err (ArgCount m n)) x = ⊥
IsBuilt s (Err (NotBoolean t)) x = ⊥
IsBuilt s (Err SortTooLarge) x = ⊥
