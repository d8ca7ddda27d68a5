use Rattle.std.proofs.Common.{sym, ◌∙◌, ap, ◌∷◌, []}
use Rattle.ath_sorts.specs.declared.sorts.Sort.{Con}
use Rattle.ath_sorts.proofs.MatchingLaws.{turn, turn_refused, all_of_turns, extends-con-at, refuses-con-at, refused-is, extended-is}
use Rattle.ath_sorts.proofs.matching.+match_sort.Goals as goal

pub returns-then-not-branch : goal.returns-then-not-branch
returns-then-not-branch t c =
    let rigid = c.args.rigid.now in
    let gs = c.as_slice-args.result.now in
    let ss = c.as_slice-others.result.now in
    let refused = refused-is rigid c.loop-i.found c.match_sort.new.found (c.index-args-i.result ∷ []) (c.index-others-i.result ∷ []) c.in_ok-match_sort-in-Con.field-0 c.if-not-branch.true c.in_ok-match_sort-in-Con.ensures in
    refuses-con-at rigid c.args.found.now c.args.general.now c.args.special.now c.in-Con.name c.in-Con-special.other gs ss (c.in-Con.is ∙ ap (Con c.in-Con.name) (sym c.as_slice-args.ensures)) (c.in-Con-special.is ∙ ap (Con c.in-Con-special.other) (sym c.as_slice-others.ensures))
    (turn_refused rigid c.args.found.now c.loop-i.found gs ss c.loop-i.i c.if-args-others.false c.loop-i-test.true c.loop-i.invariant c.index-args-i.result c.index-others-i.result c.index-args-i.is c.index-others-i.is refused)

pub loop-i-preserved : goal.loop-i-preserved
loop-i-preserved t c =
    let rigid = c.args.rigid.now in
    let gs = c.as_slice-args.result.now in
    let ss = c.as_slice-others.result.now in
    let more = extended-is rigid c.loop-i.found c.match_sort.new.found (c.index-args-i.result ∷ []) (c.index-others-i.result ∷ []) c.in_ok-match_sort-in-Con.field-0 c.if-not-branch.false c.in_ok-match_sort-in-Con.ensures in
    turn rigid c.args.found.now c.loop-i.found gs ss c.loop-i.i c.if-args-others.false c.loop-i-test.true c.loop-i.invariant c.index-args-i.result c.index-others-i.result c.index-args-i.is c.index-others-i.is c.match_sort.new.found more

pub returns-after-loop-i : goal.returns-after-loop-i
returns-after-loop-i t c =
    let rigid = c.args.rigid.now in
    let gs = c.as_slice-args.result.now in
    let ss = c.as_slice-others.result.now in
    extends-con-at rigid c.args.found.now c.loop-i.found c.args.general.now c.args.special.now c.in-Con.name c.in-Con-special.other gs ss (c.in-Con.is ∙ ap (Con c.in-Con.name) (sym c.as_slice-args.ensures)) (c.in-Con-special.is ∙ ap (Con c.in-Con-special.other) (sym c.as_slice-others.ensures)) c.if-name-other.false
    (all_of_turns rigid c.args.found.now c.loop-i.found gs ss c.loop-i.i c.if-args-others.false c.loop-i-test.false c.loop-i.invariant)
