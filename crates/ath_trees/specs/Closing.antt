-- A sentence quantified over one of its variables.
use Rattle.std.specs.Prelude.{not, filter}
use Rattle.ath_trees.specs.declared.node.Var.{Var}
use Rattle.ath_trees.specs.declared.node.Quant.{Quant}
use Rattle.ath_trees.specs.Tree.{var, Sent, bound}
use Rattle.ath_trees.specs.Variables.{same_var}
use Rattle.ath_trees.specs.Occurrences.{every_var, renewed}
use Rattle.ath_trees.specs.Substitution.{subst_sent}

-- the variable at the least index that no other variable of its name has in the sentence, free or bound
abbrev pub closing : Var → Sent → Var
closing x p = renewed x (filter (λ w. not (same_var x w)) (every_var p))

abbrev pub closed_over : Quant → Var → Sent → Sent
closed_over k x p = bound k (closing x p) (subst_sent x (var (closing x p)) p)
