-- Sentences at other sorts, by name and without capture.
use Rattle.std.specs.Prelude.{ℕ, zero, suc, Bool, ◌&&◌, not, List, if◌then◌else◌}
use Rattle.std.specs.List.{list_any}
use Rattle.ath_sorts.specs.declared.sorts.SVar.{SVar}
use Rattle.ath_sorts.specs.declared.sorts.Sort.{Sort}
use Rattle.ath_trees.specs.declared.node.Var.{Var}
use Rattle.ath_trees.specs.Tree.{var, Sent, atom, equal, negated, joined, bound}
use Rattle.ath_trees.specs.Measure.{sent_depth}
use Rattle.ath_trees.specs.Variables.{same_var, free_vars}
use Rattle.ath_trees.specs.Occurrences.{every_var, renewed}
use Rattle.ath_trees.specs.Under.{var_under, term_under}
use Rattle.ath_trees.specs.Substitution.{subst_to}

-- whether another of these variables comes to its name, index and sort
abbrev pub is_met : (SVar → Sort) → Var → List Var → Bool
is_met f v vs = list_any (λ w. not (same_var v w) && same_var (var_under f v) (var_under f w)) vs

-- A binder is renamed where another free variable of its body comes to its name, index and sort: to the least index that is
-- nowhere in the body. The number is one of levels that the sentence has at most.
abbrev pub at_sorts_to : ℕ → (SVar → Sort) → Sent → Sent
at_sorts_to zero f p = p
at_sorts_to (suc n) f (atom t) = atom (term_under f t)
at_sorts_to (suc n) f (equal s t) = equal (term_under f s) (term_under f t)
at_sorts_to (suc n) f (negated p) = negated (at_sorts_to n f p)
at_sorts_to (suc n) f (joined c p q) = joined c (at_sorts_to n f p) (at_sorts_to n f q)
at_sorts_to (suc n) f (bound k v p) =
    if is_met f v (free_vars p)
    then bound k (var_under f (renewed v (every_var p))) (at_sorts_to n f (subst_to n v (var (renewed v (every_var p))) p))
    else bound k (var_under f v) (at_sorts_to n f p)

abbrev pub sent_at_sorts : (SVar → Sort) → Sent → Sent
sent_at_sorts f p = at_sorts_to (sent_depth p) f p
