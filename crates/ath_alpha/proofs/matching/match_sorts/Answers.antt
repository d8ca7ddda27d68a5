use Rattle.std.proofs.Common.{sym, ◌∙◌, arith}
use Rattle.ath_sorts.specs.Instances.{is_rigid}
use Rattle.ath_trees.specs.Instance.{match_sort}
use Rattle.ath_alpha.proofs.WalkLaws.{walk-uneven, walk-end, walk-more, walk-stops}
use Rattle.ath_alpha.proofs.MatchLaws.{walk-sorts}
use Rattle.ath_alpha.proofs.matching.match_sorts.Goals as goal

pub returns-then-some-others : goal.returns-then-some-others
returns-then-some-others c =
    walk-uneven (match_sort (is_rigid c.args.rigid.now)) c.args.some.now c.args.others.now c.args.found.now c.if-some-others.true
    ∙ sym (walk-sorts (is_rigid c.args.rigid.now) c.args.some.now c.args.others.now c.args.found.now)

pub returns-then-not-branch : goal.returns-then-not-branch
returns-then-not-branch c =
    sym (walk-sorts (is_rigid c.args.rigid.now) c.args.some.now c.args.others.now c.args.found.now ∙ c.loop-i.invariant
    ∙ walk-stops (match_sort (is_rigid c.args.rigid.now)) c.args.some.now c.args.others.now c.loop-i.i c.index-some-i.result c.index-others-i.result c.index-some-i.result c.index-others-i.result c.loop-i.found c.match_sort.new.found (omega arith) (omega arith) c.index-some-i.is c.index-others-i.is c.in_ok-match_sort.field-0 c.if-not-branch.true c.in_ok-match_sort.ensures)

pub loop-i-preserved : goal.loop-i-preserved
loop-i-preserved c =
    c.loop-i.invariant
    ∙ walk-more (match_sort (is_rigid c.args.rigid.now)) c.args.some.now c.args.others.now c.loop-i.i c.index-some-i.result c.index-others-i.result c.index-some-i.result c.index-others-i.result c.loop-i.found c.match_sort.new.found (omega arith) (omega arith) c.index-some-i.is c.index-others-i.is c.in_ok-match_sort.field-0 c.if-not-branch.false c.in_ok-match_sort.ensures

pub returns : goal.returns
returns c =
    sym (walk-sorts (is_rigid c.args.rigid.now) c.args.some.now c.args.others.now c.args.found.now ∙ c.loop-i.invariant
    ∙ walk-end (match_sort (is_rigid c.args.rigid.now)) c.args.some.now c.args.others.now c.loop-i.i c.loop-i.found (omega arith) (omega arith))
