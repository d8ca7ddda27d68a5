use Rattle.std.proofs.Common.{◌+◌, [], length}
use Rattle.ath_eval.specs.declared.frame.State.TheVariants.{Enter}
use Rattle.ath_eval.specs.Machine.{Means, weight}
use Rattle.ath_eval.specs.Outcomes.{Outcome}
use Rattle.ath_eval.specs.Room.{IsRoomy}
use Rattle.ath_eval.specs.Stretches.{reading}
use Rattle.ath_eval.specs.World.{Evaluates}
use Rattle.ath_eval.proofs.machine.evaluate.Given as goal

abbrev pub invariant-loop-state : goal.invariant-loop-state
invariant-loop-state l = record {
  world : Evaluates l.fn.w l.w;
  room : IsRoomy (l.w.fuel + length l.stack.items) l.w.fresh;
  known : (out : Outcome) × Means (reading l.w) l.w.phrases l.w.store l.w.fuel l.w.fresh l.state l.stack.items out;
  means : (out : Outcome) → Means (reading l.fn.w) l.fn.w.phrases l.fn.w.store l.fn.w.fuel l.fn.w.fresh (Enter l.fn.phrase l.fn.levels) [] out → Means (reading l.w) l.w.phrases l.w.store l.w.fuel l.w.fresh l.state l.stack.items out;
}

abbrev pub decreases-loop-state : goal.decreases-loop-state
decreases-loop-state l = weight l.w.fuel l.state l.stack.items
