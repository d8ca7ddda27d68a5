use Rattle.std.proofs.Common.{◌≡◌, ◌≤◌, length, drop}
use Rattle.ath_sorts.specs.Signature.{Signature}
use Rattle.ath_trees.specs.Tree.{Sent}
use Rattle.ath_terms.specs.SortsIn.{IsSortedIn}
use Rattle.ath_terms.specs.Trees.{sent_at, Grows, IsSent}
use Rattle.ath_construction.specs.Construction.{builds}
use Rattle.ath_construction.specs.Closure.{closed_in_turn}
use Rattle.ath_construction.proofs.closure.universal_closure.Given as goal

abbrev pub invariant-loop-i : goal.invariant-loop-i
invariant-loop-i l = record {
  within : l.i ≤ length l.variables;
  grows : Grows l.fn.store l.store;
  built : (x : Sent) × (closed_in_turn (drop l.i l.variables) (sent_at l.fn.store.sents l.fn.p.0) ≡ builds x) × IsSent l.store l.sent.0 x;
  sorted : (sig : Signature) → IsSortedIn sig l.fn.store → IsSortedIn sig l.store;
}

abbrev pub decreases-loop-i : goal.decreases-loop-i
decreases-loop-i l = l.i
