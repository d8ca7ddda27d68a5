-- Laws of nameless forms: alpha-equality, substitution, sorts under binders, closing and instances.
use Rattle.std.specs.Prelude.{◌≡◌, ◌↔◌, Bool, true, List}
use Rattle.ath_sorts.specs.declared.sorts.SVar.{SVar}
use Rattle.ath_sorts.specs.declared.sorts.Sort.{Sort, Var as sort_var}
use Rattle.ath_sorts.specs.Signature.{Signature}
use Rattle.ath_sorts.specs.Validity.{IsValid}
use Rattle.ath_trees.specs.declared.node.Var.{Var}
use Rattle.ath_trees.specs.declared.node.Quant.{Quant}
use Rattle.ath_trees.specs.Tree.{Term, Sent, bound}
use Rattle.ath_trees.specs.Occurrences.{is_among}
use Rattle.ath_trees.specs.Variables.{free_vars}
use Rattle.ath_trees.specs.WellSorted.{is_valid_sort, HasSort, IsWellSorted}
use Rattle.ath_trees.specs.Under.{var_under}
use Rattle.ath_trees.specs.Nameless.{nfree, nameless, sent_instance, AlphaEqual}
use Rattle.ath_trees.specs.Substitution.{subst_sent, replacing}
use Rattle.ath_trees.specs.SortUnder.{sent_at_sorts}
use Rattle.ath_trees.specs.Closing.{closed_over}
use Rattle.ath_trees.specs.Binding.{IsBinding}
use Rattle.ath_trees.specs.Instance.{sort_instance, is_alpha_equal, MatchSortInstance}

pub record AlphaIsAnEquivalence : Type 0 where
  pub itself : (p : Sent) → AlphaEqual p p
  pub turned : (p q : Sent) → AlphaEqual p q → AlphaEqual q p
  pub through : (p q r : Sent) → AlphaEqual p q → AlphaEqual q r → AlphaEqual p r

-- to substitute by name is to substitute in the nameless form
abbrev pub SubstitutionIsNameless : Type 0
SubstitutionIsNameless = (x : Var) (by : Term) (p : Sent) → nameless (subst_sent x by p) ≡ sent_instance (replacing x by) sort_var (nameless p)

-- a sentence at other sorts has its nameless form at these sorts
abbrev pub SortsUnderBinders : Type 0
SortsUnderBinders = (f : SVar → Sort) (p : Sent) → nameless (sent_at_sorts f p) ≡ sent_instance (λ v. nfree (var_under f v)) f (nameless p)

-- the new index of a closed sentence's variable changes its name alone
abbrev pub ClosingIsQuantifying : Type 0
ClosingIsQuantifying = (k : Quant) (x : Var) (p : Sent) → AlphaEqual (closed_over k x p) (bound k x p)

-- the instance of a sentence is found exactly where there is one
abbrev pub InstancesAreFound : Type 0
InstancesAreFound = (rigid : SVar → Bool) (p q : Sent) → MatchSortInstance rigid p q (sort_instance rigid p q)

-- alpha-equality is told
abbrev pub AlphaIsTold : Type 0
AlphaIsTold = (p q : Sent) → (is_alpha_equal p q ≡ true) ↔ AlphaEqual p q

-- a listed variable that occurs in a pattern becomes one term alone
abbrev pub BindingsAgree : Type 0
BindingsAgree = (sig : Signature) (vars : List Var) (rigid : SVar → Bool) (σ τ : Var → Term) (f g : SVar → Sort) (p q : Sent) → IsBinding sig vars rigid σ f p q → IsBinding sig vars rigid τ g p q
    → (v : Var) → is_among v vars ≡ true → is_among v (free_vars p) ≡ true → σ v ≡ τ v

-- what substitution, sorts under binders and closing make of a well-sorted sentence is well-sorted
pub record SortingIsKept : Type 0 where
  pub substituted : (sig : Signature) (x : Var) (by : Term) (p : Sent) → HasSort sig by x.sort → IsWellSorted sig p → IsWellSorted sig (subst_sent x by p)
  pub at_sorts : (sig : Signature) (f : SVar → Sort) (p : Sent) → IsValid sig → ((v : SVar) → is_valid_sort sig (f v) ≡ true) → IsWellSorted sig p → IsWellSorted sig (sent_at_sorts f p)
  pub closed : (sig : Signature) (k : Quant) (x : Var) (p : Sent) → is_valid_sort sig x.sort ≡ true → IsWellSorted sig p → IsWellSorted sig (closed_over k x p)
