use Rattle.ath_sorts.specs.Signature.{Signature}
use Rattle.ath_sorts.specs.Sorts.{image, apply_to}
use Rattle.ath_sorts.specs.declared.sorts.SVar.{SVar}
use Rattle.std.proofs.Common.{◌≡◌, true, take}
use Rattle.ath_terms.specs.Lists.{AreTerms}
use Rattle.ath_terms.specs.SortsIn.{IsSortedIn}
use Rattle.ath_terms.specs.Trees.{term_at, sort_at, Grows}
use Rattle.ath_trees.specs.Under.{term_under}
use Rattle.ath_subst.proofs.SameLaws.{Stay, AreSame}
use Rattle.ath_trees.specs.WellSorted.{is_valid_sort}
use Rattle.ath_subst.proofs.StepLaws.{images_of}
use Rattle.ath_subst.proofs.terms.+renewed_term.Given as goal

abbrev pub decreases-renewed_term : goal.decreases-renewed_term
decreases-renewed_term l = l.t.0

abbrev pub invariant-loop-i : goal.invariant-loop-i
invariant-loop-i l = record {
  grows : Grows l.fn.store l.store;
  parts : AreTerms l.store l.parts (images_of l.fn.store (image l.subst) (take l.i l.ids));
  sort : l.sort ≡ apply_to (image l.subst) (sort_at l.fn.store.sorts l.fn.t.0);
  same : (sig : Signature) → IsSortedIn sig l.fn.store → Stay (λ j. term_under (image l.subst) (term_at l.fn.store.terms j.0)) (λ j. term_at l.fn.store.terms j.0) l.ids (record { 0 = 0 }) l.i → AreSame l.fn.store l.store l.parts (take l.i l.ids);
  sorted : (sig : Signature) → IsSortedIn sig l.fn.store → ((v : SVar) → is_valid_sort sig (image l.subst v) ≡ true) → IsSortedIn sig l.store;
}
