-- Bindings: terms for listed variables and sorts for sort variables, by which a pattern becomes a target. A pattern is a
-- sentence; two that are matched together are the sides of one.
use Rattle.std.specs.Prelude.{◌≡◌, Bool, true, List, [], if◌then◌else◌}
use Rattle.ath_sorts.specs.declared.sorts.SVar.{SVar}
use Rattle.ath_sorts.specs.declared.sorts.Sort.{Sort, Var as sort_var}
use Rattle.ath_sorts.specs.Signature.{Signature}
use Rattle.ath_sorts.specs.Sorts.{apply_to}
use Rattle.ath_trees.specs.declared.node.Var.{Var}
use Rattle.ath_trees.specs.Tree.{Term, Sent}
use Rattle.ath_trees.specs.Under.{var_under}
use Rattle.ath_trees.specs.WellSorted.{HasSort}
use Rattle.ath_trees.specs.Occurrences.{is_among}
use Rattle.ath_trees.specs.Nameless.{NTerm, nfree, nameless_term, nameless, sent_instance}

-- a listed variable becomes its term, in which no variable is bound; any other keeps its name and index
abbrev pub binding : List Var → (Var → Term) → (SVar → Sort) → Var → NTerm
binding vars σ f v = if is_among v vars then nameless_term [] (σ v) else nfree (var_under f v)

pub record IsBinding (sig : Signature) (vars : List Var) (rigid : SVar → Bool) (σ : Var → Term) (f : SVar → Sort) (pattern target : Sent) : Type 0 where
  -- each term has the sort of its variable
  pub sorted : (v : Var) → is_among v vars ≡ true → HasSort sig (σ v) (apply_to f v.sort)
  pub off : (a : SVar) → rigid a ≡ true → f a ≡ sort_var a
  pub becomes : sent_instance (binding vars σ f) f (nameless pattern) ≡ nameless target
