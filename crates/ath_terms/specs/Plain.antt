-- Plain building: the answer is the id of the tree where it is within the limits; else the number of its nodes, or of its
-- levels, is told.
use Rattle.std.specs.Prelude.{◌≡◌, ◌<◌, ◌≤◌, Result, Ok, Err}
use Rattle.ath_sorts.specs.declared.sorts.Sort.{Sort}
use Rattle.ath_trees.specs.declared.node.TermId.{TermId}
use Rattle.ath_terms.specs.declared.measure.BuildError.{BuildError}
use Rattle.ath_terms.specs.declared.measure.BuildError.TheVariants.{SortClash, ArgCount, NotBoolean, TooLarge, TooDeep, SortTooLarge, Memory}
use Rattle.ath_trees.specs.Tree.{Term, atom}
use Rattle.ath_terms.specs.Trees.{Trees, IsTermOf}
use Rattle.ath_trees.specs.declared.limits.TheConstants.{MOST_TERM_NODES, MOST_TERM_LEVELS}
use Rattle.ath_trees.specs.Measure.{term_size, term_depth, IsSmall}

abbrev pub IsPlainTerm : Trees → Term → Sort → Result TermId BuildError → Type 0
IsPlainTerm s x r (Ok t) = IsTermOf s t.0 x r × IsSmall (atom x)
IsPlainTerm s x r (Err (TooLarge n)) = (MOST_TERM_NODES < term_size x) × (n ≡ term_size x)
IsPlainTerm s x r (Err (TooDeep n)) = (term_size x ≤ MOST_TERM_NODES) × (MOST_TERM_LEVELS < term_depth x) × (n ≡ term_depth x)
IsPlainTerm s x r (Err Memory) = Unit {0}
IsPlainTerm s x r (Err (SortClash a b)) = ⊥
IsPlainTerm s x r (Err (ArgCount m n)) = ⊥
IsPlainTerm s x r (Err (NotBoolean t)) = ⊥
IsPlainTerm s x r (Err SortTooLarge) = ⊥
