-- The free variables of trees, each once, in the order in which they occur first. Variables that differ in name, index or
-- sort are two.
use Rattle.std.specs.Prelude.{Bool, ◌&&◌, ◌==◌, not, List, [], ◌∷◌, ◌++◌, filter, if◌then◌else◌}
use Rattle.std.specs.List.{list_any}
use Rattle.ath_sorts.specs.Equality.{same_sort}
use Rattle.ath_trees.specs.declared.node.Var.{Var}
use Rattle.ath_trees.specs.Tree.{Term, Terms, var, app, none, more, Sent, atom, equal, negated, joined, bound}

-- whether two variables have one name and one index
abbrev pub is_namesake : Var → Var → Bool
is_namesake v w = v.name.0 == w.name.0 && v.index == w.index

abbrev pub same_var : Var → Var → Bool
same_var v w = is_namesake v w && same_sort v.sort w.sort

-- the variables found so far, and v where it isn't among them
abbrev pub with_var : List Var → Var → List Var
with_var found v = if list_any (same_var v) found then found else found ++ v ∷ []

abbrev pub with_vars : List Var → List Var → List Var
with_vars found [] = found
with_vars found (v ∷ vs) = with_vars (with_var found v) vs

-- the variables found so far, and then those of a tree
abbrev mutual
  pub with_term : List Var → Term → List Var
  with_term found (var v) = with_var found v
  with_term found (app f sorts args) = with_terms found args

  pub with_terms : List Var → Terms → List Var
  with_terms found none = found
  with_terms found (more t ts) = with_terms (with_term found t) ts

-- a quantifier takes its own variable from those of its body
abbrev pub with_sent : List Var → Sent → List Var
with_sent found (atom t) = with_term found t
with_sent found (equal s t) = with_term (with_term found s) t
with_sent found (negated p) = with_sent found p
with_sent found (joined c p q) = with_sent (with_sent found p) q
with_sent found (bound k v p) = with_vars found (filter (λ w. not (same_var v w)) (with_sent [] p))

abbrev pub with_sents : List Var → List Sent → List Var
with_sents found [] = found
with_sents found (p ∷ ps) = with_sents (with_sent found p) ps

abbrev pub term_vars : Term → List Var
term_vars t = with_term [] t

abbrev pub free_vars : Sent → List Var
free_vars p = with_sent [] p
