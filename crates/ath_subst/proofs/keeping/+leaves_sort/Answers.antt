use Rattle.std.proofs.Common.{◌∙◌, sym, arith}
use Rattle.ath_sorts.specs.Sorts.{apply_to, image}
use Rattle.ath_sorts.proofs.SubstitutionLaws.{apply-at-none}
use Rattle.ath_subst.proofs.KeepingLaws.{con-left}
use Rattle.ath_terms.proofs.SortVarLaws.{agree-next}
use Rattle.ath_subst.proofs.keeping.+leaves_sort.Goals as goal

pub returns-in-None : goal.returns-in-None
returns-in-None t c = λ _. apply-at-none c.args.subst.now c.args.sort.now c.in-Var.v c.in-Var.is c.in-None.ensures ∙ sym c.in-Var.is

pub loop-i-preserved : goal.loop-i-preserved
loop-i-preserved t c = agree-next (apply_to (image c.args.subst.now)) (λ x. x) c.as_slice-parts.result.now c.loop-i.i c.index-parts-i.result (omega arith) c.loop-i.invariant (rw (← c.index-parts-i.is) (c.leaves_sort.ensures c.if-not-leaves_sort.false))

pub returns-after-loop-i : goal.returns-after-loop-i
returns-after-loop-i t c = λ _. con-left c.args.subst.now c.args.sort.now c.in-Con.field-0 c.in-Con.args c.as_slice-parts.result.now c.loop-i.i c.in-Con.is c.as_slice-parts.ensures (omega arith) c.loop-i.invariant
