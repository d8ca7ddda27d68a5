use Rattle.std.proofs.Common.{◌≡◌, ap, refl, sym, arith}
use Rattle.ath_sorts.specs.declared.sorts.Sym.{Sym}
use Rattle.ath_alpha.specs.Binders.{lefts_of, rights_of}
use Rattle.ath_alpha.proofs.ListLaws.{maps-lengths, maps-at, maps-all}
use Rattle.ath_alpha.proofs.FormLaws.{shown, same_apps, apps_same, app_is_no_var}
use Rattle.ath_alpha.proofs.alike.+are_like_terms.Goals as goal
use Rattle.ath_alpha.proofs.alike.+are_like_terms.Goals.{then-f-g-via-then-f-g, then-f-g-via-else-f-g+then-xs-ys}

pub returns-then-f-g : goal.returns-then-f-g
returns-then-f-g t c = (
  λ e. absurd (cc),
  λ e.
      let p = same_apps c.args.told c.args.store.now.terms (lefts_of c.args.binders.now) (rights_of c.args.binders.now) c.args.s.0 c.args.t.0 _ _ c.in-App.f c.in-App-term-2.g c.in-App.sorts c.in-App-term-2.rest c.in-App.args c.in-App-term-2.parts c.term.ensures.tree c.term-in-App.ensures.tree c.in-App.is c.in-App-term-2.is e in
      let l = maps-lengths (shown c.args.told c.args.store.now.terms (lefts_of c.args.binders.now)) (shown c.args.told c.args.store.now.terms (rights_of c.args.binders.now)) c.in-App.args c.in-App-term-2.parts p.args in
      let m = ap (λ (f : Sym). f.0) p.symbols in
      absurd (elim c.then-f-g.branch [ then-f-g-via-then-f-g w ↦ w.if-f-g.true m | then-f-g-via-else-f-g+then-xs-ys w ↦ w.if-xs-ys.true (rw (c.as_slice-xs.ensures, c.as_slice-ys.ensures) l) ]),
)

pub returns-then-not-are_like_terms : goal.returns-then-not-are_like_terms
returns-then-not-are_like_terms t c = (
  λ e. absurd (cc),
  λ e.
      let p = same_apps c.args.told c.args.store.now.terms (lefts_of c.args.binders.now) (rights_of c.args.binders.now) c.args.s.0 c.args.t.0 _ _ c.in-App.f c.in-App-term-2.g c.in-App.sorts c.in-App-term-2.rest c.in-App.args c.in-App-term-2.parts c.term.ensures.tree c.term-in-App.ensures.tree c.in-App.is c.in-App-term-2.is e in
      let q = rw (← c.as_slice-xs.ensures, ← c.as_slice-ys.ensures) at p.args in
      let r = maps-at (shown c.args.told c.args.store.now.terms (lefts_of c.args.binders.now)) (shown c.args.told c.args.store.now.terms (rights_of c.args.binders.now)) c.as_slice-xs.result.now c.as_slice-ys.result.now c.loop-i.i _ _ (omega arith) (omega arith) q in
      c.if-not-are_like_terms.ensures.1 r,
)

pub returns-in-App-term : goal.returns-in-App-term
returns-in-App-term t c = (
  λ e. absurd (cc),
  λ e. absurd (app_is_no_var c.args.told c.args.store.now.terms (lefts_of c.args.binders.now) (rights_of c.args.binders.now) c.args.s.0 c.args.t.0 _ _ c.in-Var.v c.in-App-term.field-0 c.in-App-term.field-1 c.in-App-term.field-2 c.term.ensures.tree c.term-in-Var.ensures.tree c.in-Var.is c.in-App-term.is e),
)

pub returns-in-Var-term-2 : goal.returns-in-Var-term-2
returns-in-Var-term-2 t c = (
  λ e. absurd (cc),
  λ e. absurd (app_is_no_var c.args.told c.args.store.now.terms (rights_of c.args.binders.now) (lefts_of c.args.binders.now) c.args.t.0 c.args.s.0 _ _ c.in-Var-term-2.field-0 c.in-App.f c.in-App.sorts c.in-App.args c.term-in-App.ensures.tree c.term.ensures.tree c.in-Var-term-2.is c.in-App.is (sym e)),
)

pub returns-after-loop-i : goal.returns-after-loop-i
returns-after-loop-i t c =
    let q = maps-all (shown c.args.told c.args.store.now.terms (lefts_of c.args.binders.now)) (shown c.args.told c.args.store.now.terms (rights_of c.args.binders.now)) c.as_slice-xs.result.now c.as_slice-ys.result.now c.loop-i.i (omega arith) (omega arith) c.loop-i.invariant in
    let r = rw (c.as_slice-xs.ensures, c.as_slice-ys.ensures) at q in
    let s : c.in-App.f ≡ c.in-App-term-2.g = ap (λ n. record { 0 = n }) c.if-f-g.false in
    (λ e. apps_same c.args.told c.args.store.now.terms (lefts_of c.args.binders.now) (rights_of c.args.binders.now) c.args.s.0 c.args.t.0 _ _ c.in-App.f c.in-App-term-2.g c.in-App.sorts c.in-App-term-2.rest c.in-App.args c.in-App-term-2.parts c.term.ensures.tree c.term-in-App.ensures.tree c.in-App.is c.in-App-term-2.is s (rw (c.as_slice.ensures, c.as_slice-in-App-term-2.ensures) at (c.if-not-are_like_sorts.ensures.0 refl)) r, λ e. refl)
