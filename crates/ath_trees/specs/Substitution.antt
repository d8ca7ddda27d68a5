-- Substitution of a term for a free variable, by name and without capture.
use Rattle.std.specs.Prelude.{ℕ, zero, suc, [], ◌++◌, if◌then◌else◌}
use Rattle.ath_trees.specs.declared.node.Var.{Var}
use Rattle.ath_trees.specs.Tree.{Term, Terms, var, app, none, more, Sent, atom, equal, negated, joined, bound}
use Rattle.ath_trees.specs.Measure.{sent_depth}
use Rattle.ath_trees.specs.Variables.{same_var, term_vars, free_vars}
use Rattle.ath_trees.specs.Occurrences.{is_among, is_named, every_var, renewed}
use Rattle.ath_trees.specs.Nameless.{NTerm, nfree, nameless_term}

abbrev mutual
  pub subst_term : Var → Term → Term → Term
  subst_term x by (var v) = if same_var x v then by else var v
  subst_term x by (app f ss ts) = app f ss (subst_terms x by ts)

  pub subst_terms : Var → Term → Terms → Terms
  subst_terms x by none = none
  subst_terms x by (more t ts) = more (subst_term x by t) (subst_terms x by ts)

-- a binder's new variable: at the least index that is neither free in the term nor anywhere in the body
abbrev pub other : Var → Term → Sent → Var
other v by p = renewed v (term_vars by ++ every_var p)

-- A binder is renamed exactly where a free variable of the term has its name and index and x is free in its body. The number
-- is one of levels that the sentence has at most.
abbrev pub subst_to : ℕ → Var → Term → Sent → Sent
subst_to zero x by p = p
subst_to (suc n) x by (atom t) = atom (subst_term x by t)
subst_to (suc n) x by (equal s t) = equal (subst_term x by s) (subst_term x by t)
subst_to (suc n) x by (negated p) = negated (subst_to n x by p)
subst_to (suc n) x by (joined c p q) = joined c (subst_to n x by p) (subst_to n x by q)
subst_to (suc n) x by (bound k v p) =
    if is_among x (free_vars (bound k v p))
    then (if is_named v (term_vars by)
    then bound k (other v by p) (subst_to n x by (subst_to n v (var (other v by p)) p))
    else bound k v (subst_to n x by p))
    else bound k v p

abbrev pub subst_sent : Var → Term → Sent → Sent
subst_sent x by p = subst_to (sent_depth p) x by p

-- in the nameless form: the term for the variable, and each other variable for itself
abbrev pub replacing : Var → Term → Var → NTerm
replacing x by v = if same_var x v then nameless_term [] by else nfree v
