use Rattle.std.proofs.Common.{arith}
use Rattle.ath_sorts.specs.Sorts.{image}
use Rattle.ath_trees.specs.Under.{sent_under}
use Rattle.ath_terms.specs.Trees.{sent_at}
use Rattle.ath_subst.proofs.KeepingLaws.{atom-left, equal-left, conn-left}
use Rattle.ath_terms.proofs.SortVarLaws.{agree-next}
use Rattle.ath_subst.proofs.keeping.+leaves_sent.Goals as goal

pub returns-in-Atom : goal.returns-in-Atom
returns-in-Atom t c = λ is. atom-left (image c.args.subst.now) c.args.store.now c.sent.result.now c.args.p.0 c.sent.ensures.tree c.in-Atom.t c.in-Atom.is (c.leaves_term.ensures is).0

pub returns-else-not-leaves_term : goal.returns-else-not-leaves_term
returns-else-not-leaves_term t c = λ is. equal-left (image c.args.subst.now) c.args.store.now c.sent.result.now c.args.p.0 c.sent.ensures.tree c.in-Eq.s c.in-Eq.t c.in-Eq.is (c.leaves_term-in-Eq.ensures c.if-not-leaves_term.false).0 (c.leaves_term-in-Eq-2.ensures is).0

pub loop-i-preserved : goal.loop-i-preserved
loop-i-preserved t c = agree-next (λ j. sent_under (image c.args.subst.now) (sent_at c.args.store.now.sents j.0)) (λ j. sent_at c.args.store.now.sents j.0) c.as_slice-parts.result.now c.loop-i.i (record { 0 = 0 }) (omega arith) c.loop-i.invariant (c.leaves_sent.ensures c.if-not-leaves_sent.false)

pub returns-after-loop-i : goal.returns-after-loop-i
returns-after-loop-i t c = λ _. conn-left (image c.args.subst.now) c.args.store.now c.sent.result.now c.args.p.0 c.sent.ensures.tree c.in-Conn.field-0 c.in-Conn.ids c.as_slice-parts.result.now _ c.args.p.0 c.loop-i.i c.in-Conn.is c.as_slice-parts.ensures c.sent.ensures.below (omega arith) c.loop-i.invariant
