use Rattle.std.proofs.Common.{arith}
use Rattle.ath_sorts.specs.Sorts.{image}
use Rattle.ath_terms.proofs.Grow.{grows-then}
use Rattle.ath_construction.proofs.ArgumentLaws.{parts-next, parts-all}
use Rattle.ath_construction.proofs.application.terms_under.Goals as goal

pub loop-i-preserved : goal.loop-i-preserved
loop-i-preserved c = record {
  grows = grows-then _ _ _ c.loop-i.invariant.grows c.in_ok-part.ensures.grows;
  parts = rw c.in_ok-push.ensures.ok
      (parts-next c.args.store.now c.loop-i.store c.term_under.new.store (image c.args.subst.now) c.args.args.now c.loop-i.parts c.loop-i.i (record { 0 = 0 }) c.in_ok-part.part
      c.requires (omega arith) c.loop-i.invariant.grows c.in_ok-part.ensures.grows c.loop-i.invariant.parts c.in_ok-part.ensures.tree.0);
  sorted = λ sig h ok. c.in_ok-part.ensures.sorted sig (c.loop-i.invariant.sorted sig h ok) ok;
}

pub returns-clause-trees : goal.returns-clause-trees
returns-clause-trees c = parts-all c.args.store.now c.loop-i.store (image c.args.subst.now) c.args.args.now c.loop-i.parts c.loop-i.i (omega arith) c.loop-i.invariant.parts
