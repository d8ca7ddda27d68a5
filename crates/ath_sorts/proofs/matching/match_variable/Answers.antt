use Rattle.std.proofs.Common.{◌++◌, ◌∷◌, [], List, sym, ◌∙◌, subst, ap}
use Rattle.ath_sorts.specs.declared.sorts.SVar.{SVar}
use Rattle.ath_sorts.specs.declared.sorts.Sort.{Sort, Var}
use Rattle.ath_sorts.specs.Matching.{Extends}
use Rattle.ath_sorts.proofs.MatchingLaws.{extends-var, none-found}
use Rattle.ath_sorts.proofs.matching.match_variable.Goals as goal

pub returns : goal.returns
returns c =
    let P : List (SVar × Sort) → Type 0 = λ new. Extends c.args.rigid.now c.args.found.now new (Var c.args.v ∷ []) (c.args.special.now ∷ []) in
    let e = c.in_ok-push.ensures ∙ ap (λ (s : Sort). c.args.found.now ++ (c.args.v, s) ∷ []) c.in_ok-copied.ensures in
    subst P (sym e) (extends-var c.args.rigid.now c.args.found.now c.args.v c.args.special.now (sym c.is_among.ensures ∙ c.if-is_among.false) (sym c.get.ensures ∙ none-found c.get.result c.in_default.not-Some))
