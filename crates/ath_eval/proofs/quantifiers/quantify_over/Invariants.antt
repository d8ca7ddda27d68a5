use Rattle.std.proofs.Common.{◌≡◌, ◌<◌, ◌≤◌, length, take}
use Rattle.ath_terms.specs.Trees.{sent_at}
use Rattle.ath_construction.specs.Construction.{builds}
use Rattle.ath_eval.specs.Applying.{quantified_over}
use Rattle.ath_eval.specs.World.{Rests}
use Rattle.ath_eval.proofs.quantifiers.quantify_over.Given as goal

abbrev pub invariant-loop-i : goal.invariant-loop-i
invariant-loop-i l = record {
  rests : Rests l.fn.w l.w;
  within : l.i ≤ length l.vars;
  inside : l.sent.0 < length l.w.store.sents;
  built : quantified_over l.fn.w.sig l.q l.vars (builds (sent_at l.fn.w.store.sents l.fn.body.0)) ≡ quantified_over l.fn.w.sig l.q (take l.i l.vars) (builds (sent_at l.w.store.sents l.sent.0));
}

abbrev pub decreases-loop-i : goal.decreases-loop-i
decreases-loop-i l = l.i
