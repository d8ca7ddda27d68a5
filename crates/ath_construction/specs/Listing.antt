-- What an application lists and measures, by the terms that a store has and the sorts that it keeps for them.
use Rattle.std.specs.Prelude.{◌+◌, ◌&&◌, List, [], ◌++◌, map, zip}
use Rattle.std.specs.List.{list_all}
use Rattle.ath_sorts.specs.declared.sorts.SVar.{SVar}
use Rattle.ath_sorts.specs.declared.sorts.Sort.{Sort}
use Rattle.ath_sorts.specs.Sorts.{is_small, apply_to}
use Rattle.ath_sorts.specs.Signature.{Signature}
use Rattle.ath_trees.specs.declared.node.TermId.{TermId}
use Rattle.ath_trees.specs.Tree.{Term, Terms, listed}
use Rattle.ath_trees.specs.Measure.{terms_size, terms_depth}
use Rattle.ath_trees.specs.SortsIn.{have_small_sorts}
use Rattle.ath_trees.specs.Variables.{with_terms}
use Rattle.ath_trees.specs.Under.{terms_under}
use Rattle.ath_terms.specs.Limits.{Measure}
use Rattle.ath_terms.specs.Trees.{Trees, term_at, sort_at}
use Rattle.ath_construction.specs.Construction.{variable_pairs}

abbrev pub terms_of : Trees → List TermId → List Term
terms_of s ids = map (λ i. term_at s.terms i.0) ids

abbrev pub sorts_of : Trees → List TermId → List Sort
sorts_of s ids = map (λ i. sort_at s.sorts i.0) ids

-- the arguments
abbrev pub arguments : Trees → List TermId → Terms
arguments s ids = listed (terms_of s ids)

-- each declared sort under a substitution with that of the argument, and then the variables
abbrev pub app_pairs : Trees → (SVar → Sort) → List Sort → List TermId → List (Sort × Sort)
app_pairs s f declared ids = zip (map (apply_to f) declared) (sorts_of s ids) ++ variable_pairs (with_terms [] (arguments s ids))

-- the measure under a substitution, where the sort arguments and the sort are these before it
abbrev pub app_measure : Signature → (SVar → Sort) → List Sort → Sort → Terms → Measure
app_measure sig f made sort ts = record {
  small = is_small (apply_to f sort) && (list_all (λ s. is_small (apply_to f s)) made && have_small_sorts sig (terms_under f ts));
  nodes = 1 + terms_size ts;
  levels = 1 + terms_depth ts;
}
