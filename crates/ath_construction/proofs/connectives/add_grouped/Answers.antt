use Rattle.std.proofs.Common.{◌≡◌, ◌+◌, ◌-◌, arith}
use Rattle.ath_sorts.specs.Sorts.{image}
use Rattle.ath_terms.proofs.Grow.{grows-then}
use Rattle.ath_construction.proofs.GroupLaws.{group-built, group-joined}
use Rattle.ath_construction.proofs.MeasureLaws.{group-small}
use Rattle.ath_construction.proofs.connectives.add_grouped.Goals as goal

pub add_joined-requires-clause-small : goal.add_joined-requires-clause-small
add_joined-requires-clause-small c =
    let h = c.loop-i.invariant.inside in
    let k : c.loop-i.i - 1 + 1 ≡ c.loop-i.i = let t = c.loop-i-test.true in omega arith in
    group-small c.args.store.now.sents c.args.c (image c.args.subst.now) c.args.parts.now (c.loop-i.i - 1) _ (omega arith) c.requires.small
    (group-joined c.args.store.now c.loop-i.store c.sent_at_sorts-in-loop-i.new.store (image c.args.subst.now) c.args.c c.args.parts.now c.loop-i.i (c.loop-i.i - 1) (record { 0 = 0 })
    c.in_ok-left.left.0 c.loop-i.sent.0 c.requires.inside h k c.loop-i.invariant.grows c.in_ok-left.ensures.grows c.loop-i.invariant.tree c.in_ok-left.ensures.tree)

pub loop-i-preserved : goal.loop-i-preserved
loop-i-preserved c =
    let h = c.loop-i.invariant.inside in
    let k : c.loop-i.i - 1 + 1 ≡ c.loop-i.i = let t = c.loop-i-test.true in omega arith in
    record {
      inside = omega arith;
      grows = grows-then _ _ _ c.loop-i.invariant.grows (grows-then _ _ _ c.in_ok-left.ensures.grows c.in_ok-sent-2.ensures.grows);
      tree = group-built c.args.store.now c.loop-i.store c.sent_at_sorts-in-loop-i.new.store c.add_joined.new.store (image c.args.subst.now) c.args.c c.args.parts.now c.loop-i.i (c.loop-i.i - 1)
          (record { 0 = 0 }) c.in_ok-left.left.0 c.loop-i.sent.0 c.in_ok-sent-2.sent.0 c.requires.inside h k c.loop-i.invariant.grows c.in_ok-left.ensures.grows c.loop-i.invariant.tree c.in_ok-left.ensures.tree c.in_ok-sent-2.ensures.tree;
      sorted = λ sig h ok. c.in_ok-sent-2.ensures.sorted sig (c.in_ok-left.ensures.sorted sig (c.loop-i.invariant.sorted sig h ok) ok);
    }
