use Rattle.std.proofs.Common.{refl, sym, ◌∙◌, ap, arith}
use Rattle.ath_sorts.specs.Instances.{is_rigid}
use Rattle.ath_alpha.specs.Binders.{lefts_of, rights_of}
use Rattle.ath_terms.specs.declared.node.TermNode.TheVariants.{App}
use Rattle.ath_alpha.proofs.WalkLaws.{walk-end, walk-stops}
use Rattle.ath_alpha.proofs.MatchLaws.{match_terms_at, match-apps-other, match-apps-uneven, match-apps-same, match-var-app, match-app-var}
use Rattle.ath_alpha.proofs.instance.+match_terms.Goals as goal
use Rattle.ath_alpha.proofs.instance.+match_terms.Goals.{then-f-g-via-then-f-g, then-f-g-via-else-f-g+then-xs-ys}

pub returns-in-App-term : goal.returns-in-App-term
returns-in-App-term t c =
    match-var-app (is_rigid c.args.at.now.rigid.now) c.args.at.now.store.now.terms (lefts_of c.args.at.now.binders.now) (rights_of c.args.at.now.binders.now) c.args.s.0 c.args.t.0 _ _ c.in-Var.v c.in-App-term.field-0 c.in-App-term.field-1 c.in-App-term.field-2 c.args.found.now c.term.ensures.tree c.term-in-Var.ensures.tree c.in-Var.is c.in-App-term.is

pub returns-in-Var-term-2 : goal.returns-in-Var-term-2
returns-in-Var-term-2 t c =
    match-app-var (is_rigid c.args.at.now.rigid.now) c.args.at.now.store.now.terms (lefts_of c.args.at.now.binders.now) (rights_of c.args.at.now.binders.now) c.args.s.0 c.args.t.0 _ _ c.in-Var-term-2.field-0 c.in-App.f c.in-App.sorts c.in-App.args c.args.found.now c.term.ensures.tree c.term-in-App.ensures.tree c.in-App.is c.in-Var-term-2.is

pub returns-then-f-g : goal.returns-then-f-g
returns-then-f-g t c =
    elim c.then-f-g.branch [
      | then-f-g-via-then-f-g w ↦
          match-apps-other (is_rigid c.args.at.now.rigid.now) c.args.at.now.store.now.terms (lefts_of c.args.at.now.binders.now) (rights_of c.args.at.now.binders.now) c.args.s.0 c.args.t.0 _ _ c.in-App.f c.in-App-term-2.g c.in-App.sorts c.in-App-term-2.rest c.in-App.args c.in-App-term-2.parts c.args.found.now c.term.ensures.tree c.term-in-App.ensures.tree c.in-App.is c.in-App-term-2.is w.if-f-g.true
      | then-f-g-via-else-f-g+then-xs-ys w ↦
          match-apps-uneven (is_rigid c.args.at.now.rigid.now) c.args.at.now.store.now.terms (lefts_of c.args.at.now.binders.now) (rights_of c.args.at.now.binders.now) c.args.s.0 c.args.t.0 _ _ c.in-App.f c.in-App-term-2.g c.in-App.sorts c.in-App-term-2.rest c.in-App.args c.in-App-term-2.parts c.args.found.now c.term.ensures.tree c.term-in-App.ensures.tree c.in-App.is c.in-App-term-2.is w.if-f-g.false
          (λ e. w.if-xs-ys.true (rw (c.as_slice-xs.ensures, c.as_slice-ys.ensures) e))
    ]

pub returns-then-not-branch-2 : goal.returns-then-not-branch-2
returns-then-not-branch-2 t c =
    let m = match_terms_at (is_rigid c.args.at.now.rigid.now) c.args.at.now.store.now.terms (lefts_of c.args.at.now.binders.now) (rights_of c.args.at.now.binders.now) in
    let xs = c.as_slice-xs.result.now in
    let ys = c.as_slice-ys.result.now in
    let sorts = rw (c.as_slice.ensures, c.as_slice-in-App-term-2.ensures) at c.in_ok-match_sorts-in-App-term-2.ensures in
    let whole = match-apps-same (is_rigid c.args.at.now.rigid.now) c.args.at.now.store.now.terms (lefts_of c.args.at.now.binders.now) (rights_of c.args.at.now.binders.now) c.args.s.0 c.args.t.0 _ _ c.in-App.f c.in-App-term-2.g c.in-App.sorts c.in-App-term-2.rest xs ys c.args.found.now c.term.ensures.tree c.term-in-App.ensures.tree (c.in-App.is ∙ ap (App c.in-App.f c.in-App.sorts) (sym c.as_slice-xs.ensures)) (c.in-App-term-2.is ∙ ap (App c.in-App-term-2.g c.in-App-term-2.rest) (sym c.as_slice-ys.ensures)) c.if-f-g.false c.in_ok-match_sorts-in-App-term-2.field-0 c.match_sorts.new.found c.if-not-branch.false sorts in
    sym (whole ∙ c.loop-i.invariant ∙ walk-stops m xs ys c.loop-i.i (record { 0 = 0 }) (record { 0 = 0 }) _ _ c.loop-i.found c.match_terms.new.found (omega arith) (omega arith) refl refl c.in_ok-match_terms-in-App-term-2.field-0 c.if-not-branch-2.true c.in_ok-match_terms-in-App-term-2.ensures)

pub returns-after-loop-i : goal.returns-after-loop-i
returns-after-loop-i t c =
    let m = match_terms_at (is_rigid c.args.at.now.rigid.now) c.args.at.now.store.now.terms (lefts_of c.args.at.now.binders.now) (rights_of c.args.at.now.binders.now) in
    let xs = c.as_slice-xs.result.now in
    let ys = c.as_slice-ys.result.now in
    let sorts = rw (c.as_slice.ensures, c.as_slice-in-App-term-2.ensures) at c.in_ok-match_sorts-in-App-term-2.ensures in
    let whole = match-apps-same (is_rigid c.args.at.now.rigid.now) c.args.at.now.store.now.terms (lefts_of c.args.at.now.binders.now) (rights_of c.args.at.now.binders.now) c.args.s.0 c.args.t.0 _ _ c.in-App.f c.in-App-term-2.g c.in-App.sorts c.in-App-term-2.rest xs ys c.args.found.now c.term.ensures.tree c.term-in-App.ensures.tree (c.in-App.is ∙ ap (App c.in-App.f c.in-App.sorts) (sym c.as_slice-xs.ensures)) (c.in-App-term-2.is ∙ ap (App c.in-App-term-2.g c.in-App-term-2.rest) (sym c.as_slice-ys.ensures)) c.if-f-g.false c.in_ok-match_sorts-in-App-term-2.field-0 c.match_sorts.new.found c.if-not-branch.false sorts in
    sym (whole ∙ c.loop-i.invariant ∙ walk-end m xs ys c.loop-i.i c.loop-i.found (omega arith) (omega arith))
