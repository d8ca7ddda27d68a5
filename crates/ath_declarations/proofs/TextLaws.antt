-- What a text spells, form by form.
use Rattle.std.proofs.Common.{◌≡◌, Bool, false, List, [], ◌∷◌, ◌++◌, map, refl, sym, ◌∙◌, ap, subst}
use Rattle.std.specs.List.{list_any, AllByRecursion}
use Rattle.ath_sorts.specs.declared.sorts.Sym.{Sym}
use Rattle.ath_sorts.specs.declared.sorts.SVar.{SVar}
use Rattle.ath_sorts.specs.declared.sorts.SVar.TheVariants.{Written}
use Rattle.ath_sorts.specs.declared.sorts.Sort.{Sort, Var as SortVar, Con as SortCon}
use Rattle.ath_sorts.specs.declared.sorts.Sort.TheOpen as sort
use Rattle.ath_sorts.specs.declared.sorts.Sort.TheVariants.{rolls-Var as sort-rolls-Var, rolls-Con as sort-rolls-Con}
use Rattle.ath_sorts.specs.declared.sorts.Sort.TheFolds.{fold-roll-Sort}
use Rattle.ath_sorts.specs.Validity.{has_made, made_step}
use Rattle.ath_sorts.proofs.Bools.{or_false}
use Rattle.ath_syntax.specs.declared.node.SortText.{SortText, Name, Var, Con, roll-SortText}
use Rattle.ath_syntax.specs.declared.node.SortText.TheOpen as text
use Rattle.ath_syntax.specs.declared.node.SortText.TheVariants.{rolls-Name, rolls-Var, rolls-Con}
use Rattle.ath_syntax.specs.declared.node.SortText.TheFolds.{map-SortText, ind-SortText, fold-roll-SortText}
use Rattle.ath_declarations.specs.Texts.{sort_step, sort_of}

pub name_is : (c : Sym) → sort_of (Name c) ≡ SortCon c []
name_is c = ap sort_of (sym (rolls-Name c)) ∙ fold-roll-SortText Sort sort_step (text.Name c)

pub variable_is : (p : Sym) → sort_of (Var p) ≡ SortVar (Written p)
variable_is p = ap sort_of (sym (rolls-Var p)) ∙ fold-roll-SortText Sort sort_step (text.Var p)

pub application_is : (c : Sym) (args : List SortText) → sort_of (Con c args) ≡ SortCon c (map sort_of args)
application_is c args = ap sort_of (sym (rolls-Con c args)) ∙ fold-roll-SortText Sort sort_step (text.Con c args)

-- induction in the usual form
module _ (P : SortText → Type 0) (at_name : (c : Sym) → P (Name c)) (at_var : (p : Sym) → P (Var p)) (at_con : (c : Sym) (args : List SortText) → AllByRecursion P args → P (Con c args)) where
  all_of : (es : List ((t : SortText) × P t)) → AllByRecursion P (map (λ e. e.0) es)
  all_of [] = tt
  all_of (e ∷ es) = (e.1, all_of es)

  step : (y : text.SortText-F ((t : SortText) × P t)) → P (roll-SortText (map-SortText ((t : SortText) × P t) SortText (λ e. e.0) y))
  step (text.Name c) = subst P (sym (rolls-Name c)) (at_name c)
  step (text.Var p) = subst P (sym (rolls-Var p)) (at_var p)
  step (text.Con c es) = subst P (sym (rolls-Con c (map (λ e. e.0) es))) (at_con c (map (λ e. e.0) es) (all_of es))

  pub text_induction : (t : SortText) → P t
  text_induction = ind-SortText P (λ x y is. subst (λ z. P (roll-SortText z)) is (step y))

-- ---- no variable that is spelled was made
made-var : (v : SVar) → has_made (SortVar v) ≡ made_step (sort.Var v)
made-var v = ap has_made (sym (sort-rolls-Var v)) ∙ fold-roll-Sort Bool made_step (sort.Var v)

made-con : (c : Sym) (args : List Sort) → has_made (SortCon c args) ≡ list_any (λ b. b) (map has_made args)
made-con c args = ap has_made (sym (sort-rolls-Con c args)) ∙ fold-roll-Sort Bool made_step (sort.Con c args)

abbrev HasNoneMade : SortText → Type 0
HasNoneMade t = has_made (sort_of t) ≡ false

none_in : (args : List SortText) → AllByRecursion HasNoneMade args → list_any (λ b. b) (map has_made (map sort_of args)) ≡ false
none_in [] a = refl
none_in (t ∷ ts) a = or_false (has_made (sort_of t)) (list_any (λ b. b) (map has_made (map sort_of ts))) a.0 (none_in ts a.1)

pub none_made : (t : SortText) → has_made (sort_of t) ≡ false
none_made = text_induction HasNoneMade
    (λ c. ap has_made (name_is c) ∙ made-con c [])
    (λ p. ap has_made (variable_is p) ∙ made-var (Written p))
    (λ c args a. ap has_made (application_is c args) ∙ made-con c (map sort_of args) ∙ none_in args a)

pub spelled_none_made : (args : List SortText) (result : SortText) → list_any has_made (map sort_of args ++ sort_of result ∷ []) ≡ false
spelled_none_made [] result = or_false (has_made (sort_of result)) false (none_made result) refl
spelled_none_made (t ∷ ts) result = or_false (has_made (sort_of t)) (list_any has_made (map sort_of ts ++ sort_of result ∷ [])) (none_made t) (spelled_none_made ts result)
