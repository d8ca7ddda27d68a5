use Rattle.std.proofs.Common.{◌-◌, refl, sym, subst, arith}
use Rattle.ath_terms.specs.Trees.{sent_at}
use Rattle.ath_eval.proofs.Constructed.{IsSortedVariable}
use Rattle.ath_eval.proofs.QuantifierLaws.{over_next, over_stopped}
use Rattle.ath_eval.proofs.Worlds.{stored, rests_then}
use Rattle.ath_eval.proofs.quantifiers.quantify_over.Goals as goal

pub invariant_of-w-clause-sorted : goal.invariant_of-w-clause-sorted
invariant_of-w-clause-sorted c = let l = c.loop-i in let v = c.index-vars-i in
    c.quantify.ensures.sorted l.w.sig l.w.sorted (rw l.invariant.rests.world.signature (subst (IsSortedVariable c.args.w.now.sig) (sym v.is) (c.requires.sorts (l.i - 1) v.result (omega arith))))

pub loop-i-preserved : goal.loop-i-preserved
loop-i-preserved c = let w = c.args.w.now in let l = c.loop-i in let i = l.invariant in let v = c.index-vars-i in let k = c.in-Ok in record {
  rests = rests_then w l.w _ i.rests (record { world = stored l.w _ c.quantify.ensures.grows refl refl refl refl; fuel = refl; fresh = refl; scope = refl });
  within = omega arith;
  inside = k.ensures.inside;
  built = over_next w.sig c.args.q c.args.vars.now l.i v.result c.loop-i-test.true i.within v.is (sent_at l.w.store.sents l.sent.0) _ i.built c.quantify.new.store k.p (k.ensures.built w.sig (rw i.rests.world.signature at l.w.sorted));
}

pub returns-in-Err-clause-built : goal.returns-in-Err-clause-built
returns-in-Err-clause-built c = let w = c.args.w.now in let l = c.loop-i in let i = l.invariant in let v = c.index-vars-i in let k = c.in-Err in
    over_stopped w.sig c.args.q c.args.vars.now l.i v.result c.loop-i-test.true i.within v.is (sent_at l.w.store.sents l.sent.0) _ i.built c.quantify.new.store k.error (k.ensures.built w.sig (rw i.rests.world.signature at l.w.sorted))
