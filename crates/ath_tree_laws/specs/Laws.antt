-- The second law of substitution by name; the first is `SubstitutionIsNameless`.
use Rattle.std.specs.Prelude.{◌≡◌, ◌&&◌, ◌||◌, not}
use Rattle.ath_trees.specs.declared.node.Var.{Var}
use Rattle.ath_trees.specs.Tree.{Term, Sent}
use Rattle.ath_trees.specs.Occurrences.{is_among}
use Rattle.ath_trees.specs.Substitution.{subst_sent}
use Rattle.ath_trees.specs.Variables.{same_var, term_vars, free_vars}

-- A variable is free in the result exactly where it is free in the sentence and isn't the one that is replaced, or where that
-- one is free in the sentence and the variable is in the term.
abbrev pub NoneIsCaptured : Type 0
NoneIsCaptured = (x v : Var) (by : Term) (p : Sent) → is_among v (free_vars (subst_sent x by p)) ≡
    ((is_among v (free_vars p) && not (same_var x v)) || (is_among x (free_vars p) && is_among v (term_vars by)))
