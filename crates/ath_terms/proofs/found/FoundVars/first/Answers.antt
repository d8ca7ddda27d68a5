use Rattle.std.proofs.Common.{◌≡◌, ◌<◌, ◌≤◌, ◌∙◌, List, None, Some, ap, length, rules, slice_get, sym}
use Rattle.std.specs.Prelude.{find}
use Rattle.ath_sorts.proofs.Gets.{get-from-or, get-past}
use Rattle.ath_trees.specs.declared.node.Var.{Var}
use Rattle.ath_terms.specs.Found.{var_key, same_var_key}
use Rattle.ath_terms.proofs.FirstLaws.{not_filed, filed_here, filed_past}
use Rattle.ath_terms.proofs.KeyLaws.{var-looked}
use Rattle.ath_terms.proofs.found.FoundVars.first.Goals as goal

pub returns-in_default : goal.returns-in_default
returns-in_default c =
    not_filed same_var_key var_key c.self.inside.list.items c.self.inside.places.entries c.args.key.now c.self.invariant (var-looked c.self.inside.places.entries c.args.key.now ∙ sym c.in_default.ensures.value)
    ∙ ap (λ (x : List Var). find (λ w. same_var_key c.args.key.now (var_key w)) x) c.self.view_is

pub returns-in_default-get : goal.returns-in_default-get
returns-in_default-get c =
    let xs = c.self.inside.list.items in
    let places = c.self.inside.places.entries in
    let i = c.in-Some.at.now in
    let past : length c.as_slice.result.now ≤ i = search rules in
    let here : slice_get c.as_slice.result.now i ≡ None = get-past c.as_slice.result.now i past in
    filed_past same_var_key var_key xs places c.args.key.now c.self.invariant i (var-looked places c.args.key.now ∙ sym c.in-Some.ensures.value) (ap (λ (x : List Var). slice_get x i) (sym c.as_slice.ensures.value) ∙ here)
    ∙ ap (λ (x : List Var). find (λ w. same_var_key c.args.key.now (var_key w)) x) c.self.view_is

pub returns-then-is_key : goal.returns-then-is_key
returns-then-is_key c =
    let xs = c.self.inside.list.items in
    let places = c.self.inside.places.entries in
    let i = c.in-Some.at.now in
    let e = c.in-Some-get.w.now in
    let within : i < length c.as_slice.result.now = search rules in
    let here : slice_get c.as_slice.result.now i ≡ Some e = get-from-or c.as_slice.result.now i e within ∙ ap Some (sym c.in-Some-get.ensures.lookup.1) in
    filed_here same_var_key var_key xs places c.args.key.now c.self.invariant i e _ (var-looked places c.args.key.now ∙ sym c.in-Some.ensures.value) (ap (λ (x : List Var). slice_get x i) (sym c.as_slice.ensures.value) ∙ here) (sym c.is_key.ensures ∙ c.if-is_key.true)
    ∙ ap (λ (x : List Var). find (λ w. same_var_key c.args.key.now (var_key w)) x) c.self.view_is

pub returns-else-is_key : goal.returns-else-is_key
returns-else-is_key c =
    let xs = c.self.inside.list.items in
    let places = c.self.inside.places.entries in
    let i = c.in-Some.at.now in
    let e = c.in-Some-get.w.now in
    let within : i < length c.as_slice.result.now = search rules in
    let here : slice_get c.as_slice.result.now i ≡ Some e = get-from-or c.as_slice.result.now i e within ∙ ap Some (sym c.in-Some-get.ensures.lookup.1) in
    filed_here same_var_key var_key xs places c.args.key.now c.self.invariant i e _ (var-looked places c.args.key.now ∙ sym c.in-Some.ensures.value) (ap (λ (x : List Var). slice_get x i) (sym c.as_slice.ensures.value) ∙ here) (sym c.is_key.ensures ∙ c.if-is_key.false)
    ∙ ap (λ (x : List Var). find (λ w. same_var_key c.args.key.now (var_key w)) x) c.self.view_is
