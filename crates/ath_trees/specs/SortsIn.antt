-- The sort of a term in a signature, and whether the sorts of a tree are within the limits. The sorts of a tree are those of its variables and binders, its sort arguments, and those of its terms.
use Rattle.std.specs.Prelude.{Bool, true, ◌&&◌, List, Option, Some, None}
use Rattle.std.specs.List.{list_all}
use Rattle.ath_sorts.specs.declared.sorts.Sort.{Sort}
use Rattle.ath_sorts.specs.declared.signature.Symbol.{Symbol}
use Rattle.ath_sorts.specs.Sorts.{is_small}
use Rattle.ath_sorts.specs.Signature.{Signature, symbol_of, at_sorts, boolean}
use Rattle.ath_trees.specs.Tree.{Term, Terms, var, app, none, more, Sent, atom, equal, negated, joined, bound}

-- the sort that a symbol gives at sort arguments; one that isn't there gives Boolean
abbrev pub result_sort : Option Symbol → List Sort → Sort
result_sort (Some d) sorts = at_sorts d.params sorts d.result
result_sort None sorts = boolean

abbrev pub sort_in : Signature → Term → Sort
sort_in sig (var v) = v.sort
sort_in sig (app f sorts args) = result_sort (symbol_of sig f) sorts

abbrev mutual
  pub has_small_sorts : Signature → Term → Bool
  has_small_sorts sig (var v) = is_small v.sort
  has_small_sorts sig (app f sorts args) = is_small (result_sort (symbol_of sig f) sorts) && (list_all is_small sorts && have_small_sorts sig args)

  pub have_small_sorts : Signature → Terms → Bool
  have_small_sorts sig none = true
  have_small_sorts sig (more t ts) = has_small_sorts sig t && have_small_sorts sig ts

abbrev pub sent_has_small_sorts : Signature → Sent → Bool
sent_has_small_sorts sig (atom t) = has_small_sorts sig t
sent_has_small_sorts sig (equal s t) = has_small_sorts sig s && has_small_sorts sig t
sent_has_small_sorts sig (negated p) = sent_has_small_sorts sig p
sent_has_small_sorts sig (joined c p q) = sent_has_small_sorts sig p && sent_has_small_sorts sig q
sent_has_small_sorts sig (bound k v p) = is_small v.sort && sent_has_small_sorts sig p
