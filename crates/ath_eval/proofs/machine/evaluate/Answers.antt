use Rattle.std.proofs.Common.{◌≡◌, ◌+◌, ◌*◌, length, refl, arith}
use Rattle.ath_eval.specs.declared.frame.State.TheVariants.{Enter, Done}
use Rattle.ath_eval.specs.Machine.{Means, FrameMeans, weight, rank}
use Rattle.ath_eval.specs.Outcomes.{Outcome}
use Rattle.ath_eval.specs.Stretches.{reading}
use Rattle.ath_eval.specs.World.{left_in, context_of, environment_of}
use Rattle.ath_eval.specs.Evaluation.{evaluated}
use Rattle.ath_eval.proofs.Resuming.{no_frames, means_frame, means_end, frame_falls, room_popped, popped_room}
use Rattle.ath_eval.proofs.Worlds.{here, stays, evaluates_then, carried}
use Rattle.ath_eval.proofs.machine.evaluate.Goals as goal

pub loop-state-init : goal.loop-state-init
loop-state-init c = let a = c.args in let w = a.w.now in record {
  world = stays w;
  room = rw c.new-stack.ensures.items (omega (arith, w.roomy.0), omega (arith, w.roomy.1));
  known = (evaluated (context_of w) a.levels (environment_of w) c.requires.0 (left_in w), rw c.new-stack.ensures.items (c.requires.0, (environment_of w).base, c.requires.1, here w, refl));
  means = λ out m. rw c.new-stack.ensures.items m;
}

pub loop-state-preserved-in-Enter : goal.loop-state-preserved-in-Enter
loop-state-preserved-in-Enter c = let i = c.loop-state.invariant in let l = c.loop-state in let v = l.w in let k = c.in-Enter in let o = c.in_ok-state-in-Enter in let u = c.enter.new.w in
    let go = carried v u (Means (reading v) v.phrases v.store v.fuel v.fresh (Enter k.next k.left) l.stack.items) (weight v.fuel (Enter k.next k.left) l.stack.items) u.fuel o.state c.enter.new.stack.items o.ensures.world refl o.ensures.steps in record {
      world = evaluates_then c.args.w.now v u i.world o.ensures.world;
      room = o.ensures.room;
      known = (i.known.0, go i.known.0 (rw k.is at i.known.1));
      means = λ out m. go out (rw k.is at (i.means out m));
    }

pub enter-requires-clause-phrase : goal.enter-requires-clause-phrase
enter-requires-clause-phrase c = let k = c.in-Enter in let m = rw k.is at c.loop-state.invariant.known.1 in (m.0, m.2)

pub returns-in-None-clause-outcome : goal.returns-in-None-clause-outcome
returns-in-None-clause-outcome c = λ x h. let i = c.loop-state.invariant in let a = c.args in let v = c.loop-state.w in
    let none : length c.loop-state.stack.items ≡ 0 = omega (arith, c.loop-state.stack.ok.0, c.in-None.ensures.cases.0) in
    means_end (reading v) v.phrases v.store v.fuel v.fresh c.loop-state.state c.loop-state.stack.items c.in-Done.outcome (evaluated (context_of a.w.now) a.levels (environment_of a.w.now) x (left_in a.w.now)) c.in-Done.is (no_frames c.loop-state.stack.items none) (i.means _ (x, (environment_of a.w.now).base, h, here a.w.now, refl))

pub resume-requires-clause-known : goal.resume-requires-clause-known
resume-requires-clause-known c = let i = c.loop-state.invariant in let l = c.loop-state in let v = l.w in
    (v.fuel, i.known.0, means_frame (reading v) v.phrases v.store v.fuel v.fresh l.state l.stack.items c.in-Done.outcome c.in-Some.frame c.pop.new.self.items i.known.0 c.in-Done.is c.in-Some.ensures.items i.known.1)

pub resume-requires-clause-room : goal.resume-requires-clause-room
resume-requires-clause-room c = let l = c.loop-state in room_popped l.stack.items c.pop.new.self.items c.in-Some.frame l.w.fresh l.w.fuel c.in-Some.ensures.items l.invariant.room

pub loop-state-smaller : goal.loop-state-smaller
loop-state-smaller c = let l = c.loop-state in let o = c.in_ok-state-in-Some in
    rw o.ensures.passes.fuel (frame_falls l.w.fuel l.state l.stack.items c.in-Done.outcome c.in-Some.frame c.pop.new.self.items _ c.in-Done.is c.in-Some.ensures.items (o.ensures.steps l.w.fuel).falls)

pub loop-state-preserved : goal.loop-state-preserved
loop-state-preserved c = let i = c.loop-state.invariant in let l = c.loop-state in let v = l.w in let nodes = v.phrases in let r = reading v in let o = c.in_ok-state-in-Some in let u = c.resume.new.w in let fs = c.pop.new.self.items in
    let fr = λ (out : Outcome). means_frame r nodes v.store v.fuel v.fresh l.state l.stack.items c.in-Done.outcome c.in-Some.frame fs out c.in-Done.is c.in-Some.ensures.items in
    let go = carried v u (FrameMeans r nodes v.store v.fuel v.fresh c.in-Done.outcome c.in-Some.frame fs) (4 * v.fuel + 2 * length fs + 2 + rank (Done c.in-Done.outcome)) v.fuel o.state c.resume.new.stack.items o.ensures.passes.world o.ensures.passes.fuel (o.ensures.steps v.fuel) in record {
      world = evaluates_then c.args.w.now v u i.world o.ensures.passes.world;
      room = rw o.ensures.passes.fuel (popped_room l.stack.items fs c.in-Some.frame v.fresh u.fresh v.fuel (length c.resume.new.stack.items) c.in-Some.ensures.items i.room o.ensures.room);
      known = (i.known.0, go i.known.0 (fr i.known.0 i.known.1));
      means = λ out m. go out (fr out (i.means out m));
    }
