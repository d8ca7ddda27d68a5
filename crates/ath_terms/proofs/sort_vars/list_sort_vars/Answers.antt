use Rattle.std.proofs.Common.{◌≡◌, subst, arith}
use Rattle.ath_sorts.specs.declared.sorts.SVar.{SVar}
use Rattle.ath_sorts.specs.declared.sorts.Sort.{Sort}
use Rattle.ath_sorts.specs.Sorts.{apply_to}
use Rattle.ath_terms.specs.SortVars.{Fixes}
use Rattle.ath_terms.proofs.SortVarLaws.{fixed-next, sorts-left}
use Rattle.ath_terms.proofs.sort_vars.list_sort_vars.Goals as goal

pub loop-i-preserved : goal.loop-i-preserved
loop-i-preserved c = fixed-next c.args.sorts.now c.loop-i.i c.index-sorts-i.result c.loop-i.vars c.sort_vars.result c.and-vars.result (omega arith) c.loop-i.invariant
    (subst (λ (s : Sort). (f : SVar → Sort) → Fixes c.sort_vars.result f → apply_to f s ≡ s) c.index-sorts-i.is c.sort_vars.ensures) c.and-vars.ensures

pub returns : goal.returns
returns c = λ f h. sorts-left (apply_to f) c.args.sorts.now c.loop-i.i (omega arith) (c.loop-i.invariant f h)
