use Rattle.std.proofs.Common.{◌≡◌, ◌<◌, true, length}
use Rattle.ath_sorts.specs.Signature.{Signature}
use Rattle.ath_sorts.specs.Sorts.{image}
use Rattle.ath_sorts.specs.declared.sorts.SVar.{SVar}
use Rattle.ath_terms.specs.SortsIn.{IsSortedIn}
use Rattle.ath_terms.specs.Trees.{Grows, IsSent}
use Rattle.ath_trees.specs.SortUnder.{sent_at_sorts}
use Rattle.ath_trees.specs.WellSorted.{is_valid_sort}
use Rattle.ath_construction.proofs.GroupLaws.{group_from}
use Rattle.ath_construction.proofs.connectives.add_grouped.Given as goal

abbrev pub invariant-loop-i : goal.invariant-loop-i
invariant-loop-i l = record {
  inside : l.i < length l.parts;
  grows : Grows l.fn.store l.store;
  tree : IsSent l.store l.sent.0 (sent_at_sorts (image l.subst) (group_from l.fn.store.sents l.c l.parts l.i));
  sorted : (sig : Signature) → IsSortedIn sig l.fn.store → ((v : SVar) → is_valid_sort sig (image l.subst v) ≡ true) → IsSortedIn sig l.store;
}

abbrev pub decreases-loop-i : goal.decreases-loop-i
decreases-loop-i l = l.i
