-- The free occurrences of one variable become another. Where that one is nowhere in the sentence, no binder is in the way.
use Rattle.std.specs.Prelude.{if◌then◌else◌}
use Rattle.ath_trees.specs.declared.node.Var.{Var}
use Rattle.ath_trees.specs.Tree.{var, Sent, atom, equal, negated, joined, bound}
use Rattle.ath_trees.specs.Variables.{same_var}
use Rattle.ath_trees.specs.Substitution.{subst_term}

abbrev pub renamed : Var → Var → Sent → Sent
renamed y y' (atom t) = atom (subst_term y (var y') t)
renamed y y' (equal s t) = equal (subst_term y (var y') s) (subst_term y (var y') t)
renamed y y' (negated p) = negated (renamed y y' p)
renamed y y' (joined c p q) = joined c (renamed y y' p) (renamed y y' q)
renamed y y' (bound q v p) = if same_var y v then bound q v p else bound q v (renamed y y' p)
