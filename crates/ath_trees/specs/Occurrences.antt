-- The variables of a tree as a list that is asked for one, and the least index at which a name is unused.
use Rattle.std.specs.Prelude.{ℕ, zero, suc, ◌+◌, max, Bool, List, [], ◌∷◌, ◌++◌, if◌then◌else◌}
use Rattle.std.specs.List.{list_any}
use Rattle.ath_trees.specs.declared.node.Var.{Var}
use Rattle.ath_trees.specs.Tree.{Sent, atom, equal, negated, joined, bound}
use Rattle.ath_trees.specs.Variables.{is_namesake, same_var, term_vars}

abbrev pub is_among : Var → List Var → Bool
is_among v vs = list_any (same_var v) vs

-- whether one of them has its name and index
abbrev pub is_named : Var → List Var → Bool
is_named v vs = list_any (is_namesake v) vs

-- every variable of a sentence: free, bound, or a binder's own
abbrev pub every_var : Sent → List Var
every_var (atom t) = term_vars t
every_var (equal s t) = term_vars s ++ term_vars t
every_var (negated p) = every_var p
every_var (joined c p q) = every_var p ++ every_var q
every_var (bound k v p) = v ∷ every_var p

abbrev pub at_index : Var → ℕ → Var
at_index v k = record { name = v.name; index = k; sort = v.sort }

-- a number above every index
abbrev pub ceiling : List Var → ℕ
ceiling [] = 0
ceiling (v ∷ vs) = max (v.index + 1) (ceiling vs)

-- the least index of k and the n after it at which the name of v is unused
abbrev pub least_unused : ℕ → ℕ → Var → List Var → ℕ
least_unused zero k v used = k
least_unused (suc n) k v used = if is_named (at_index v k) used then least_unused n (k + 1) v used else k

-- the variable at the least index at which none of the used ones has its name
abbrev pub renewed : Var → List Var → Var
renewed v used = at_index v (least_unused (ceiling used) 0 v used)
