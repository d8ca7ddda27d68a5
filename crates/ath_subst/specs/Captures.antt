-- A binder and its body before a term is put into them: renamed where a variable of the term has the binder's name and index.
use Rattle.std.specs.Prelude.{Bool, ◌&&◌, ◌||◌, not, if◌then◌else◌}
use Rattle.ath_trees.specs.declared.node.Var.{Var}
use Rattle.ath_trees.specs.Tree.{Term, Sent}
use Rattle.ath_trees.specs.Occurrences.{is_among, is_named}
use Rattle.ath_trees.specs.Renamed.{renamed}
use Rattle.ath_trees.specs.Substitution.{other}
use Rattle.ath_trees.specs.Variables.{same_var, term_vars, free_vars}

-- whether a quantified sentence is left as it is: the variable is its own, or it is captured and isn't free in the body
abbrev pub is_left : Var → Term → Var → Sent → Bool
is_left x by v p = same_var x v || (is_named v (term_vars by) && not (is_among x (free_vars p)))

abbrev pub binder_for : Term → Var → Sent → Var
binder_for by v p = if is_named v (term_vars by) then other v by p else v

abbrev pub body_for : Term → Var → Sent → Sent
body_for by v p = if is_named v (term_vars by) then renamed v (other v by p) p else p
