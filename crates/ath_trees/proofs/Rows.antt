-- Worked examples of substitution, closing, sorts under binders and instances.
use Rattle.std.proofs.Common.{◌≡◌, true, false, [], ◌∷◌, Some, None, refl, ℕ}
use Rattle.ath_sorts.specs.declared.sorts.SVar.TheVariants.{Made}
use Rattle.ath_sorts.specs.declared.sorts.Sort.{Sort, Var as sort_var}
use Rattle.ath_sorts.specs.Sorts.{image}
use Rattle.ath_sorts.specs.Equality.{same_sort}
use Rattle.ath_sorts.proofs.SameSorts.{same_sort-refl, same_sort-true}
use Rattle.ath_sorts.proofs.SortLaws.{apply-var, Var-inj}
use Rattle.ath_trees.specs.declared.node.Var.{Var}
use Rattle.ath_trees.specs.declared.node.Quant.TheVariants.{Forall, Exists}
use Rattle.ath_trees.specs.Tree.{var, app, none, more, Sent, atom, equal, bound}
use Rattle.ath_trees.specs.Substitution.{subst_sent}
use Rattle.ath_trees.specs.SortUnder.{sent_at_sorts}
use Rattle.ath_trees.specs.Closing.{closed_over}
use Rattle.ath_trees.specs.Instance.{sort_instance, is_alpha_equal}
use Rattle.ath_trees.proofs.Occurring.{not_true}
use Rattle.ath_trees.proofs.InstanceLaws.{match-var}

abbrev a : Sort
a = sort_var (Made 1)

abbrev b : Sort
b = sort_var (Made 2)

abbrev at : ℕ → ℕ → Sort → Var
at name index sort = record { name = record { 0 = name }; index = index; sort = sort }

abbrev x : Var
x = at 10 0 a

abbrev y : Var
y = at 11 0 a

abbrev z : Var
z = at 12 0 a

abbrev has : Var → Sent
has v = atom (app (record { 0 = 20 }) [] (more (var v) none))

aa : same_sort a a ≡ true
aa = same_sort-refl a

bb : same_sort b b ≡ true
bb = same_sort-refl b

ba : same_sort b a ≡ false
ba = not_true (same_sort b a) (λ t. let e = Var-inj (Made 2) (Made 1) (same_sort-true b a t) in cc)

-- a binder that would capture the term is renamed
captured : subst_sent x (var y) (bound Exists y (equal (var x) (var y))) ≡ bound Exists (at 11 1 a) (equal (var y) (var (at 11 1 a)))
captured = simp aa refl

-- one whose body doesn't have the variable is left as it is
uncaptured : subst_sent x (var y) (bound Exists y (equal (var z) (var y))) ≡ bound Exists y (equal (var z) (var y))
uncaptured = simp aa refl

-- names of bound variables don't count
renamed_alike : is_alpha_equal (bound Forall x (has x)) (bound Forall z (has z)) ≡ true
renamed_alike = simp (aa, match-var (λ v. true) (Made 1) a []) refl

-- but free ones do
free_apart : is_alpha_equal (has x) (has z) ≡ false
free_apart = refl

-- closing takes the least index
closed_least : closed_over Forall (at 10 3 a) (equal (var (at 10 3 a)) (var (at 10 3 a))) ≡ bound Forall x (equal (var x) (var x))
closed_least = simp aa refl

-- that no other variable of the name has
closed_apart : closed_over Forall (at 10 3 a) (equal (var (at 10 3 a)) (var (at 10 0 b))) ≡ bound Forall (at 10 1 a) (equal (var (at 10 1 a)) (var (at 10 0 b)))
closed_apart = simp aa refl

-- two variables of one name whose sorts become one stay two
sorts_apart : sent_at_sorts (image ((Made 2, a) ∷ [])) (bound Forall (at 10 0 b) (equal (var x) (var (at 10 0 b)))) ≡ bound Forall (at 10 1 a) (equal (var x) (var (at 10 1 a)))
sorts_apart = simp (aa, bb, ba, apply-var (image ((Made 2, a) ∷ [])) (Made 1), apply-var (image ((Made 2, a) ∷ [])) (Made 2)) refl

-- an instance, and none where the variable is rigid
an_instance : sort_instance (λ v. false) (bound Forall (at 10 0 b) (has (at 10 0 b))) (bound Forall y (has y)) ≡ Some ((Made 2, a) ∷ [])
an_instance = simp (aa, bb, match-var (λ v. false) (Made 2) a []) refl

no_instance : sort_instance (λ v. true) (bound Forall (at 10 0 b) (has (at 10 0 b))) (bound Forall y (has y)) ≡ None
no_instance = simp (aa, bb, ba, match-var (λ v. true) (Made 2) a []) refl
