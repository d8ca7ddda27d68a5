use Rattle.std.proofs.Common.{arith}
use Rattle.ath_terms.specs.Trees.{sent_at}
use Rattle.ath_base.specs.Base.{holds}
use Rattle.ath_base.specs.Stands.{entries_in, entries_of}
use Rattle.ath_base.proofs.Scopes.{answer_found, still_left, none_holds}
use Rattle.ath_base.proofs.base.Base.holds.Goals as goal

pub returns-then-is_alpha_equal : goal.returns-then-is_alpha_equal
returns-then-is_alpha_equal c = let a = c.args in let s = a.store.now in let l = c.loop-left in let e = c.as_slice-nodes in
    answer_found s e.result.now a.self.now.nodes.items (sent_at s.sents a.p.0) a.scope.0 l.left _ a.self.now.ordered (omega (arith, c.loop-left-test.true)) l.invariant.below e.ensures.value l.invariant.same c.is_alpha_equal.result c.is_alpha_equal.ensures c.if-is_alpha_equal.true

pub loop-left-preserved : goal.loop-left-preserved
loop-left-preserved c = let a = c.args in let s = a.store.now in let l = c.loop-left in let e = c.as_slice-nodes in
    let k = still_left s e.result.now a.self.now.nodes.items (sent_at s.sents a.p.0) a.scope.0 l.left _ a.self.now.ordered (omega (arith, c.loop-left-test.true)) l.invariant.below e.ensures.value l.invariant.same c.is_alpha_equal.result c.is_alpha_equal.ensures c.if-is_alpha_equal.false in record {
      below = omega (arith, l.invariant.below, k.0);
      same = k.1;
    }

pub loop-left-smaller : goal.loop-left-smaller
loop-left-smaller c = let a = c.args in let s = a.store.now in let l = c.loop-left in let e = c.as_slice-nodes in
    let k = still_left s e.result.now a.self.now.nodes.items (sent_at s.sents a.p.0) a.scope.0 l.left _ a.self.now.ordered (omega (arith, c.loop-left-test.true)) l.invariant.below e.ensures.value l.invariant.same c.is_alpha_equal.result c.is_alpha_equal.ensures c.if-is_alpha_equal.false in
    k.0

pub returns : goal.returns
returns c = let a = c.args in let s = a.store.now in let l = c.loop-left in let e = c.as_slice-nodes in
    none_holds s e.result.now (sent_at s.sents a.p.0) l.left (holds (entries_of s (entries_in a.self.now.nodes.items a.scope.0)) (sent_at s.sents a.p.0)) (omega (arith, c.loop-left-test.false)) l.invariant.same
