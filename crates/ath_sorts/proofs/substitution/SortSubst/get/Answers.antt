use Rattle.std.proofs.Common.{◌≡◌, ◌<◌, ◌≤◌, ◌∙◌, List, None, Some, ap, length, rules, slice_get, sym}
use Rattle.ath_sorts.specs.declared.sorts.SVar.{SVar}
use Rattle.ath_sorts.specs.declared.sorts.Sort.{Sort}
use Rattle.ath_sorts.specs.Substitutions.{entry_of}
use Rattle.ath_sorts.proofs.EntryPlaces.{filed_here, filed_past}
use Rattle.ath_sorts.proofs.Gets.{get-from-or, get-past}
use Rattle.ath_sorts.proofs.VariablePlaces.{looked_up}
use Rattle.ath_sorts.proofs.substitution.SortSubst.get.Goals as goal

pub returns-in_default-get : goal.returns-in_default-get
returns-in_default-get c =
    let es = c.self.inside.entries.items in
    let places = c.self.inside.places.entries in
    let i = c.in-Some.at.now in
    let past : length c.as_slice.result.now ≤ i = search rules in
    let here : slice_get c.as_slice.result.now i ≡ None = get-past c.as_slice.result.now i past in
    filed_past es places c.args.v c.self.invariant.0 i (looked_up places c.args.v ∙ sym c.in-Some.ensures.value) (ap (λ (x : List (SVar × Sort)). slice_get x i) (sym c.as_slice.ensures.value) ∙ here)
    ∙ ap (λ (x : List (SVar × Sort)). entry_of x c.args.v) c.self.view_is

pub returns-then-is_same : goal.returns-then-is_same
returns-then-is_same c =
    let es = c.self.inside.entries.items in
    let places = c.self.inside.places.entries in
    let i = c.in-Some.at.now in
    let e = c.in-Some-get.entry.now in
    let within : i < length c.as_slice.result.now = search rules in
    let here : slice_get c.as_slice.result.now i ≡ Some e = get-from-or c.as_slice.result.now i e within ∙ ap Some (sym c.in-Some-get.ensures.lookup.1) in
    filed_here es places c.args.v c.self.invariant.0 i e _ (looked_up places c.args.v ∙ sym c.in-Some.ensures.value) (ap (λ (x : List (SVar × Sort)). slice_get x i) (sym c.as_slice.ensures.value) ∙ here) (sym c.is_same.ensures ∙ c.if-is_same.true)
    ∙ ap (λ (x : List (SVar × Sort)). entry_of x c.args.v) c.self.view_is

pub returns-else-is_same : goal.returns-else-is_same
returns-else-is_same c =
    let es = c.self.inside.entries.items in
    let places = c.self.inside.places.entries in
    let i = c.in-Some.at.now in
    let e = c.in-Some-get.entry.now in
    let within : i < length c.as_slice.result.now = search rules in
    let here : slice_get c.as_slice.result.now i ≡ Some e = get-from-or c.as_slice.result.now i e within ∙ ap Some (sym c.in-Some-get.ensures.lookup.1) in
    filed_here es places c.args.v c.self.invariant.0 i e _ (looked_up places c.args.v ∙ sym c.in-Some.ensures.value) (ap (λ (x : List (SVar × Sort)). slice_get x i) (sym c.as_slice.ensures.value) ∙ here) (sym c.is_same.ensures ∙ c.if-is_same.false)
    ∙ ap (λ (x : List (SVar × Sort)). entry_of x c.args.v) c.self.view_is
