use Rattle.std.proofs.Common.{◌≡◌, ap, refl, sym, ◌∙◌, arith}
use Rattle.ath_sorts.specs.declared.sorts.Sym.{Sym}
use Rattle.ath_trees.specs.Tree.{var}
use Rattle.ath_terms.specs.Trees.{term_at}
use Rattle.ath_terms.proofs.Parts.{map-lengths, map-at, map-take-all, same_apps, apps_same}
use Rattle.ath_terms.proofs.VariableLaws.{var_told}
use Rattle.ath_terms.proofs.equality.+is_same_term.Goals as goal
use Rattle.ath_terms.proofs.equality.+is_same_term.Goals.{then-f-g-via-then-f-g, then-f-g-via-else-f-g+then-xs-ys}

pub returns-in-Var-term : goal.returns-in-Var-term
returns-in-Var-term t c =
    let h = var_told c.is_same_var.result c.in-Var.v c.in-Var-term.w c.is_same_var.ensures in
    let p : var c.in-Var.v ≡ term_at c.args.store.now.terms c.args.s.0 = rw c.in-Var.is at c.term.ensures.tree in
    let q : var c.in-Var-term.w ≡ term_at c.args.store.now.terms c.args.t.0 = rw c.in-Var-term.is at c.term-in-Var.ensures.tree in
    (λ e. sym p ∙ ap var (h.0 e) ∙ q, λ e. h.1 (let r : var c.in-Var.v ≡ var c.in-Var-term.w = p ∙ e ∙ sym q in cc))

pub returns-then-f-g : goal.returns-then-f-g
returns-then-f-g t c = (
  λ e. absurd (cc),
  λ e.
      let p = same_apps c.args.store.now.terms c.args.s.0 c.args.t.0 _ _ c.in-App.f c.in-App-term-2.g c.in-App.sorts c.in-App-term-2.others c.in-App.args c.in-App-term-2.parts c.term.ensures.tree c.term-in-App.ensures.tree c.in-App.is c.in-App-term-2.is e in
      let l = map-lengths (λ i. term_at c.args.store.now.terms i.0) c.in-App.args c.in-App-term-2.parts p.args in
      let m = ap (λ (f : Sym). f.0) p.symbols in
      absurd (elim c.then-f-g.branch [ then-f-g-via-then-f-g w ↦ w.if-f-g.true m | then-f-g-via-else-f-g+then-xs-ys w ↦ w.if-xs-ys.true (rw (c.as_slice-xs.ensures, c.as_slice-ys.ensures) l) ]),
)

pub returns-then-not-is_same_term : goal.returns-then-not-is_same_term
returns-then-not-is_same_term t c = (
  λ e. absurd (cc),
  λ e.
      let p = same_apps c.args.store.now.terms c.args.s.0 c.args.t.0 _ _ c.in-App.f c.in-App-term-2.g c.in-App.sorts c.in-App-term-2.others c.in-App.args c.in-App-term-2.parts c.term.ensures.tree c.term-in-App.ensures.tree c.in-App.is c.in-App-term-2.is e in
      let q = rw (← c.as_slice-xs.ensures, ← c.as_slice-ys.ensures) at p.args in
      let r = map-at (λ i. term_at c.args.store.now.terms i.0) c.as_slice-xs.result.now c.as_slice-ys.result.now c.loop-i.i _ _ (omega arith) (omega arith) q in
      c.if-not-is_same_term.ensures.1 r,
)

pub returns-after-loop-i : goal.returns-after-loop-i
returns-after-loop-i t c =
    let q = map-take-all (λ i. term_at c.args.store.now.terms i.0) c.as_slice-xs.result.now c.as_slice-ys.result.now c.loop-i.i (omega arith) (omega arith) c.loop-i.invariant in
    let r = rw (c.as_slice-xs.ensures, c.as_slice-ys.ensures) at q in
    let s : c.in-App.f ≡ c.in-App-term-2.g = ap (λ n. record { 0 = n }) c.if-f-g.false in
    (λ e. apps_same c.args.store.now.terms c.args.s.0 c.args.t.0 _ _ c.in-App.f c.in-App-term-2.g c.in-App.sorts c.in-App-term-2.others c.in-App.args c.in-App-term-2.parts c.term.ensures.tree c.term-in-App.ensures.tree c.in-App.is c.in-App-term-2.is s (rw (c.as_slice.ensures, c.as_slice-in-App-term-2.ensures) at (c.if-not-are_same_sorts.ensures.0 refl)) r, λ e. refl)
