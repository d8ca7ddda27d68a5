use Rattle.std.proofs.Common.{sym, ◌∙◌, ap, arith}
use Rattle.ath_sorts.specs.declared.sorts.Sort.{Con}
use Rattle.ath_sorts.specs.Instances.{is_rigid}
use Rattle.ath_trees.specs.Instance.{match_sort}
use Rattle.ath_alpha.proofs.WalkLaws.{walk-uneven, walk-end, walk-more, walk-stops}
use Rattle.ath_alpha.proofs.MatchLaws.{match-cons-same, match-cons-other}
use Rattle.ath_alpha.proofs.matching.+match_sort.Goals as goal
use Rattle.ath_alpha.proofs.matching.+match_sort.Goals.{then-c-d-via-then-c-d, then-c-d-via-else-c-d+then-xs-ys}

pub returns-then-c-d : goal.returns-then-c-d
returns-then-c-d t c =
    elim c.then-c-d.branch [
      | then-c-d-via-then-c-d w ↦ match-cons-other (is_rigid c.args.rigid.now) c.in-Con.c c.in-Con-t.d c.in-Con.args c.in-Con-t.others c.args.s.now c.args.t.now c.args.found.now c.in-Con.is c.in-Con-t.is w.if-c-d.true
      | then-c-d-via-else-c-d+then-xs-ys w ↦
          walk-uneven (match_sort (is_rigid c.args.rigid.now)) c.in-Con.args c.in-Con-t.others c.args.found.now (λ e. w.if-xs-ys.true (rw (c.as_slice-xs.ensures, c.as_slice-ys.ensures) e))
          ∙ sym (match-cons-same (is_rigid c.args.rigid.now) c.in-Con.c c.in-Con-t.d c.in-Con.args c.in-Con-t.others c.args.s.now c.args.t.now c.args.found.now c.in-Con.is c.in-Con-t.is w.if-c-d.false)
    ]

pub returns-then-not-branch : goal.returns-then-not-branch
returns-then-not-branch t c =
    let m = match_sort (is_rigid c.args.rigid.now) in
    let xs = c.as_slice-xs.result.now in
    let ys = c.as_slice-ys.result.now in
    let whole = match-cons-same (is_rigid c.args.rigid.now) c.in-Con.c c.in-Con-t.d xs ys c.args.s.now c.args.t.now c.args.found.now (c.in-Con.is ∙ ap (Con c.in-Con.c) (sym c.as_slice-xs.ensures)) (c.in-Con-t.is ∙ ap (Con c.in-Con-t.d) (sym c.as_slice-ys.ensures)) c.if-c-d.false in
    sym (whole ∙ c.loop-i.invariant ∙ walk-stops m xs ys c.loop-i.i c.index-xs-i.result c.index-ys-i.result c.index-xs-i.result c.index-ys-i.result c.loop-i.found c.match_sort.new.found (omega arith) (omega arith) c.index-xs-i.is c.index-ys-i.is c.in_ok-match_sort-in-Con.field-0 c.if-not-branch.true c.in_ok-match_sort-in-Con.ensures)

pub loop-i-preserved : goal.loop-i-preserved
loop-i-preserved t c =
    let m = match_sort (is_rigid c.args.rigid.now) in
    let xs = c.as_slice-xs.result.now in
    let ys = c.as_slice-ys.result.now in
    c.loop-i.invariant ∙ walk-more m xs ys c.loop-i.i c.index-xs-i.result c.index-ys-i.result c.index-xs-i.result c.index-ys-i.result c.loop-i.found c.match_sort.new.found (omega arith) (omega arith) c.index-xs-i.is c.index-ys-i.is c.in_ok-match_sort-in-Con.field-0 c.if-not-branch.false c.in_ok-match_sort-in-Con.ensures

pub returns-after-loop-i : goal.returns-after-loop-i
returns-after-loop-i t c =
    let m = match_sort (is_rigid c.args.rigid.now) in
    let xs = c.as_slice-xs.result.now in
    let ys = c.as_slice-ys.result.now in
    let whole = match-cons-same (is_rigid c.args.rigid.now) c.in-Con.c c.in-Con-t.d xs ys c.args.s.now c.args.t.now c.args.found.now (c.in-Con.is ∙ ap (Con c.in-Con.c) (sym c.as_slice-xs.ensures)) (c.in-Con-t.is ∙ ap (Con c.in-Con-t.d) (sym c.as_slice-ys.ensures)) c.if-c-d.false in
    sym (whole ∙ c.loop-i.invariant ∙ walk-end m xs ys c.loop-i.i c.loop-i.found (omega arith) (omega arith))
