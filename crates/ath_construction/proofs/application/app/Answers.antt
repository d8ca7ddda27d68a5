use Rattle.std.proofs.Common.{◌≡◌, sym, ◌∙◌, ap, length, map, arith}
use Rattle.ath_terms.specs.Trees.{term_at}
use Rattle.std.specs.Option.{option_copied}
use Rattle.ath_construction.proofs.ApplicationLaws.{found-there, app-whole, trees-counted}
use Rattle.ath_construction.proofs.application.app.Goals as goal

pub returns-clause-built : goal.returns-clause-built
returns-clause-built c = λ h d e.
    let s = c.unwrap-symbol.result.now in
    let there = sym c.symbol.ensures ∙ ap option_copied c.unwrap-symbol.ensures in
    let a = ap (λ xs. length xs) c.as_slice-wanted.ensures in
    let f = c.if-wanted-len.false in
    let g = c.len.ensures in
    let k = trees-counted c.args.store.now c.args.args.now.items in
    let l : length s.args ≡ length (map (λ i. term_at c.args.store.now.terms i.0) c.args.args.now.items) = omega (arith, c.args.args.now.ok.0) in
    app-whole c.args.sig.now c.build_app.new.store c.args.fresh.now.sort c.args.f s d _ c.build_app.result there e (rw c.as_slice-2.ensures.value at (c.build_app.ensures.built c.args.sig.now h (found-there c.args.sig.now c.args.f s there)))

pub returns-clause-sorted : goal.returns-clause-sorted
returns-clause-sorted c = λ h.
    let there = sym c.symbol.ensures ∙ ap option_copied c.unwrap-symbol.ensures in
    c.build_app.ensures.sorted c.args.sig.now h (found-there c.args.sig.now c.args.f c.unwrap-symbol.result.now there)
