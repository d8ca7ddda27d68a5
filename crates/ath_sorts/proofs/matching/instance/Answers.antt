use Rattle.std.proofs.Common.{◌∷◌, [], List, subst}
use Rattle.ath_sorts.specs.declared.sorts.SVar.{SVar}
use Rattle.ath_sorts.specs.declared.sorts.Sort.{Sort}
use Rattle.ath_sorts.specs.Instances.{IsInstance}
use Rattle.ath_sorts.specs.Matching.{MatchExtended}
use Rattle.ath_sorts.proofs.MatchingLaws.{turn, turn_refused, all_of_turns, instance-of, refused-is, extended-is, refuses-all}
use Rattle.ath_sorts.proofs.matching.instance.Goals as goal

pub returns-then-not-branch : goal.returns-then-not-branch
returns-then-not-branch c =
    let rigid = c.args.rigid.now.items in
    let gs = c.as_slice-general.result.now in
    let ss = c.as_slice-special.result.now in
    let h = subst (λ (r : List SVar). MatchExtended r c.loop-i.found c.match_sort.new.found (c.index-general-i.result ∷ []) (c.index-special-i.result ∷ []) c.in_ok-match_sort.field-0) c.deref.ensures.value c.in_ok-match_sort.ensures in
    let refused = refused-is rigid c.loop-i.found c.match_sort.new.found (c.index-general-i.result ∷ []) (c.index-special-i.result ∷ []) c.in_ok-match_sort.field-0 c.if-not-branch.true h in
    let r = turn_refused rigid [] c.loop-i.found gs ss c.loop-i.i c.if-general-special.false c.loop-i-test.true c.loop-i.invariant c.index-general-i.result c.index-special-i.result c.index-general-i.is c.index-special-i.is refused in
    refuses-all rigid gs ss c.args.general.now.items c.args.special.now.items c.as_slice-general.ensures.value c.as_slice-special.ensures.value r

pub loop-i-preserved : goal.loop-i-preserved
loop-i-preserved c =
    let rigid = c.args.rigid.now.items in
    let gs = c.as_slice-general.result.now in
    let ss = c.as_slice-special.result.now in
    let h = subst (λ (r : List SVar). MatchExtended r c.loop-i.found c.match_sort.new.found (c.index-general-i.result ∷ []) (c.index-special-i.result ∷ []) c.in_ok-match_sort.field-0) c.deref.ensures.value c.in_ok-match_sort.ensures in
    let more = extended-is rigid c.loop-i.found c.match_sort.new.found (c.index-general-i.result ∷ []) (c.index-special-i.result ∷ []) c.in_ok-match_sort.field-0 c.if-not-branch.false h in
    turn rigid [] c.loop-i.found gs ss c.loop-i.i c.if-general-special.false c.loop-i-test.true c.loop-i.invariant c.index-general-i.result c.index-special-i.result c.index-general-i.is c.index-special-i.is c.match_sort.new.found more

pub returns : goal.returns
returns c =
    let rigid = c.args.rigid.now.items in
    let gs = c.as_slice-general.result.now in
    let ss = c.as_slice-special.result.now in
    let r = instance-of rigid c.loop-i.found gs ss (all_of_turns rigid [] c.loop-i.found gs ss c.loop-i.i c.if-general-special.false c.loop-i-test.false c.loop-i.invariant) in
    let P : List Sort → List Sort → Type 0 = λ x y. IsInstance c.loop-i.found x y rigid in
    subst (λ x. P x c.args.special.now.items) c.as_slice-general.ensures.value (subst (λ y. P gs y) c.as_slice-special.ensures.value r)
