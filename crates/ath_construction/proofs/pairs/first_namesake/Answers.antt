use Rattle.std.proofs.Common.{◌≡◌, ◌<◌, ◌≤◌, ◌∙◌, None, Some, ap, length, rules, slice_get, sym}
use Rattle.ath_sorts.proofs.Gets.{get-from-or, get-past}
use Rattle.ath_terms.specs.Found.{name_key, same_name_key}
use Rattle.ath_terms.proofs.FirstLaws.{not_filed, filed_here, filed_past}
use Rattle.ath_terms.proofs.KeyLaws.{name-looked}
use Rattle.ath_construction.proofs.pairs.first_namesake.Goals as goal

pub returns-in_default : goal.returns-in_default
returns-in_default c =
    not_filed same_name_key name_key c.args.before.now c.args.firsts.now.entries (name_key c.args.v.now) c.requires (name-looked c.args.firsts.now.entries (name_key c.args.v.now) c.name_key.result c.name_key.ensures ∙ sym c.in_default.ensures.value)

pub returns-in_default-get : goal.returns-in_default-get
returns-in_default-get c =
    let i = c.in-Some.at.now in
    let past : length c.args.before.now ≤ i = search rules in
    filed_past same_name_key name_key c.args.before.now c.args.firsts.now.entries (name_key c.args.v.now) c.requires i
    (name-looked c.args.firsts.now.entries (name_key c.args.v.now) c.name_key.result c.name_key.ensures ∙ sym c.in-Some.ensures.value) (get-past c.args.before.now i past)

pub returns-then-is_namesake : goal.returns-then-is_namesake
returns-then-is_namesake c =
    let i = c.in-Some.at.now in
    let e = c.in-Some-get.w.now in
    let within : i < length c.args.before.now = search rules in
    filed_here same_name_key name_key c.args.before.now c.args.firsts.now.entries (name_key c.args.v.now) c.requires i e _
    (name-looked c.args.firsts.now.entries (name_key c.args.v.now) c.name_key.result c.name_key.ensures ∙ sym c.in-Some.ensures.value)
    (get-from-or c.args.before.now i e within ∙ ap Some (sym c.in-Some-get.ensures.lookup.1)) (sym c.is_namesake.ensures ∙ c.if-is_namesake.true)

pub returns-else-is_namesake : goal.returns-else-is_namesake
returns-else-is_namesake c =
    let i = c.in-Some.at.now in
    let e = c.in-Some-get.w.now in
    let within : i < length c.args.before.now = search rules in
    filed_here same_name_key name_key c.args.before.now c.args.firsts.now.entries (name_key c.args.v.now) c.requires i e _
    (name-looked c.args.firsts.now.entries (name_key c.args.v.now) c.name_key.result c.name_key.ensures ∙ sym c.in-Some.ensures.value)
    (get-from-or c.args.before.now i e within ∙ ap Some (sym c.in-Some-get.ensures.lookup.1)) (sym c.is_namesake.ensures ∙ c.if-is_namesake.false)
