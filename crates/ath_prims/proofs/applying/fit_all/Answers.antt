use Rattle.std.proofs.Common.{◌+◌, drop, arith, sym, ◌∙◌, ap, refl, subst}
use Rattle.std.specs.Prelude.{Err}
use Rattle.ath_prims.specs.declared.applying.PrimError.TheVariants.{WrongKind, WrongShape}
use Rattle.ath_prims.specs.Applied.{Fitted, fitted}
use Rattle.ath_prims.specs.Stands.{AreFitted, arguments_at, parts_at}
use Rattle.ath_prims.proofs.Fitting.{a_premise, not-some, wrong-kind, wrong-shape, right-shape}
use Rattle.ath_prims.proofs.applying.fit_all.Goals as goal

pub loop-i-init : goal.loop-i-init
loop-i-init c = let a = c.args in let s = a.store.now in record {
  inside = (c.no_bindings-bindings.ensures s).0;
  same = ap (fitted 1 a.premises.now (arguments_at s a.args.now)) (sym (c.no_bindings-bindings.ensures s).1);
}

pub returns-in_default : goal.returns-in_default
returns-in_default c = let a = c.args in let s = a.store.now in let l = c.loop-i in
    subst (λ (f : Fitted). AreFitted s f (Err (WrongKind (l.i + 1))))
    (sym (l.invariant.same ∙ wrong-kind s a.premises.now a.args.now l.i a_premise _ (omega (arith, c.loop-i-test.true)) (omega (arith, c.loop-i-test.true, c.requires.many)) (parts_at s l.bindings) (not-some _ c.in_default.not-Some))) refl

pub loop-i-preserved : goal.loop-i-preserved
loop-i-preserved c = let a = c.args in let s = a.store.now in let l = c.loop-i in
    let k = right-shape s a.premises.now a.args.now l.i _ _ (omega (arith, c.loop-i-test.true)) (omega (arith, c.loop-i-test.true, c.requires.many)) (parts_at s l.bindings) c.in-Some.p c.fit.result c.in-Some-fit.more c.in-Some.is c.fit.ensures c.in-Some-fit.is in record {
      inside = k.0;
      same = l.invariant.same ∙ k.1;
    }
