use Rattle.std.proofs.Common.{◌≡◌, subst, arith}
use Rattle.ath_sorts.specs.declared.sorts.SVar.{SVar}
use Rattle.ath_sorts.specs.declared.sorts.Sort.{Sort}
use Rattle.ath_sorts.specs.Sorts.{apply_to}
use Rattle.ath_terms.specs.SortVars.{Fixes}
use Rattle.ath_terms.proofs.SortVarLaws.{fixed-next, con-fixed}
use Rattle.ath_terms.proofs.sort_vars.+sort_vars.Goals as goal

pub loop-i-preserved : goal.loop-i-preserved
loop-i-preserved t c = fixed-next c.as_slice-parts.result.now c.loop-i.i c.index-parts-i.result c.loop-i.vars c.sort_vars.result c.and-vars.result (omega arith) c.loop-i.invariant
    (subst (λ (s : Sort). (f : SVar → Sort) → Fixes c.sort_vars.result f → apply_to f s ≡ s) c.index-parts-i.is c.sort_vars.ensures) c.and-vars.ensures

pub returns-after-loop-i : goal.returns-after-loop-i
returns-after-loop-i t c = λ f h. con-fixed f c.args.sort.now c.in-Con.field-0 c.in-Con.args c.as_slice-parts.result.now c.loop-i.i c.in-Con.is c.as_slice-parts.ensures (omega arith) (c.loop-i.invariant f h)
