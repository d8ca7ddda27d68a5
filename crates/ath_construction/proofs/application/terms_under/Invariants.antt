use Rattle.ath_sorts.specs.Signature.{Signature}
use Rattle.ath_sorts.specs.Sorts.{image}
use Rattle.ath_sorts.specs.declared.sorts.SVar.{SVar}
use Rattle.std.proofs.Common.{◌≡◌, true, take}
use Rattle.ath_terms.specs.Lists.{AreTerms}
use Rattle.ath_terms.specs.SortsIn.{IsSortedIn}
use Rattle.ath_terms.specs.Trees.{Grows}
use Rattle.ath_trees.specs.WellSorted.{is_valid_sort}
use Rattle.ath_subst.proofs.StepLaws.{images_of}
use Rattle.ath_construction.proofs.application.terms_under.Given as goal

abbrev pub invariant-loop-i : goal.invariant-loop-i
invariant-loop-i l = record {
  grows : Grows l.fn.store l.store;
  parts : AreTerms l.store l.parts (images_of l.fn.store (image l.subst) (take l.i l.args));
  sorted : (sig : Signature) → IsSortedIn sig l.fn.store → ((v : SVar) → is_valid_sort sig (image l.subst v) ≡ true) → IsSortedIn sig l.store;
}
