-- The variables of a sort.
use Rattle.std.proofs.Common.{◌≡◌, List, [], ◌∷◌, map, sym, ◌∙◌, ap}
use Rattle.ath_sorts.specs.declared.sorts.Sym.{Sym}
use Rattle.ath_sorts.specs.declared.sorts.SVar.{SVar}
use Rattle.ath_sorts.specs.declared.sorts.Sort.{Sort, Var, Con}
use Rattle.ath_sorts.specs.declared.sorts.Sort.TheOpen as one
use Rattle.ath_sorts.specs.declared.sorts.Sort.TheVariants.{rolls-Var, rolls-Con}
use Rattle.ath_sorts.specs.declared.sorts.Sort.TheFolds.{fold-roll-Sort}
use Rattle.ath_unifiers.specs.Order.{concatenated, vars_step, vars_of}

pub vars-var : (v : SVar) → vars_of (Var v) ≡ v ∷ []
vars-var v = ap vars_of (sym (rolls-Var v)) ∙ fold-roll-Sort (List SVar) vars_step (one.Var v)

pub vars-con : (c : Sym) (args : List Sort) → vars_of (Con c args) ≡ concatenated (map vars_of args)
vars-con c args = ap vars_of (sym (rolls-Con c args)) ∙ fold-roll-Sort (List SVar) vars_step (one.Con c args)
