use Rattle.std.proofs.Common.{◌∙◌, ap, map}
use Rattle.std.specs.Prelude.{zip}
use Rattle.std.proofs.lemmas.Result.{err_from_is_err_and}
use Rattle.ath_sorts.specs.declared.sorts.SVar.TheVariants.{Written}
use Rattle.ath_sorts.specs.Sorts.{image}
use Rattle.ath_construction.specs.Construction.{made_sorts}
use Rattle.ath_trees.specs.Tree.{listed}
use Rattle.ath_terms.specs.Trees.{term_at}
use Rattle.ath_construction.proofs.ArgumentLaws.{made-counts}
use Rattle.ath_construction.proofs.ApplicationLaws.{app-unsolved, app-unmeasured, app-built, app-valid, app-sorted, these-measured}
use Rattle.ath_construction.proofs.application.build_app.Goals as goal

pub at_sorts-requires : goal.at_sorts-requires
at_sorts-requires c = made-counts c.args.first c.as_slice.result.now c.as_slice-2.result.now c.args.symbol.now.params c.as_slice-3.result.now c.in_ok-made.made.items c.as_slice-3.ensures.value c.in_ok-made.ensures c.as_slice.ensures c.as_slice-2.ensures

pub returns-in_err-subst-clause-built : goal.returns-in_err-subst-clause-built
returns-in_err-subst-clause-built c =
    let p = err_from_is_err_and c.from_residual-in_err-subst.result c.from_residual-in_err-subst.ensures.1 in
    rw (p.1, p.2) (λ sig h there. app-unsolved sig c.args.store.now c.args.symbol.now c.args.first c.args.args.now c.in_ok-inst.inst c.in_ok-made.made.items c.in_ok-sort.sort c.in_ok-pairs.pairs.items h there c.requires.inside c.requires.same
    (c.in_ok-made.ensures ∙ ap (made_sorts c.args.first) c.as_slice.ensures) (c.in_ok-inst.ensures ∙ (λ i. zip (map (λ p. Written p) (c.as_slice-2.ensures i)) (c.as_slice-3.ensures.value i))) c.in_ok-sort.ensures c.in_ok-pairs.ensures c.args.store.now _ c.in_err-subst.ensures)

pub returns-in_err-check_app-clause-built : goal.returns-in_err-check_app-clause-built
returns-in_err-check_app-clause-built c =
    let p = err_from_is_err_and c.from_residual-in_err-check_app.result c.from_residual-in_err-check_app.ensures.1 in
    rw (p.1, p.2) (λ sig h there. app-unmeasured sig c.args.store.now c.args.symbol.now c.args.first c.args.args.now c.in_ok-inst.inst c.in_ok-made.made.items c.in_ok-sort.sort c.in_ok-pairs.pairs.items h there c.requires.inside c.requires.same
    (c.in_ok-made.ensures ∙ ap (made_sorts c.args.first) c.as_slice.ensures)
    (c.in_ok-inst.ensures ∙ (λ i. zip (map (λ p. Written p) (c.as_slice-2.ensures i)) (c.as_slice-3.ensures.value i))) c.in_ok-sort.ensures c.in_ok-pairs.ensures c.in_ok-subst.subst c.in_ok-subst.ensures c.args.store.now _
    (these-measured sig (image c.in_ok-subst.subst) c.in_ok-sort.sort (listed (map (λ i. term_at c.args.store.now.terms i.0) c.args.args.now)) _ c.in_ok-made.made.items _ c.as_slice-4.ensures.value (c.in_err-check_app.ensures.measured sig h)))

pub returns-in_err-term-clause-sorted : goal.returns-in_err-term-clause-sorted
returns-in_err-term-clause-sorted c = λ sig h there. c.add_app.ensures.sorted sig h
    (app-valid sig c.args.store.now c.args.symbol.now c.args.first c.args.args.now c.in_ok-inst.inst c.in_ok-made.made.items c.in_ok-sort.sort c.in_ok-pairs.pairs.items h there c.requires.inside c.requires.same
    (c.in_ok-made.ensures ∙ ap (made_sorts c.args.first) c.as_slice.ensures) (c.in_ok-inst.ensures ∙ (λ i. zip (map (λ p. Written p) (c.as_slice-2.ensures i)) (c.as_slice-3.ensures.value i))) c.in_ok-sort.ensures c.in_ok-pairs.ensures c.in_ok-subst.subst c.in_ok-subst.ensures)
    (rw c.as_slice-5.ensures.value (app-sorted sig c.args.store.now c.args.symbol.now c.args.first c.args.args.now c.in_ok-inst.inst c.in_ok-made.made.items c.in_ok-sort.sort c.in_ok-pairs.pairs.items h there c.requires.inside c.requires.same
    (c.in_ok-made.ensures ∙ ap (made_sorts c.args.first) c.as_slice.ensures) (c.in_ok-inst.ensures ∙ (λ i. zip (map (λ p. Written p) (c.as_slice-2.ensures i)) (c.as_slice-3.ensures.value i))) c.in_ok-sort.ensures c.in_ok-pairs.ensures c.in_ok-subst.subst c.in_ok-subst.ensures))

pub returns-clause-built : goal.returns-clause-built
returns-clause-built c = λ sig h there. app-built sig c.args.store.now c.args.symbol.now c.args.first c.args.args.now c.in_ok-inst.inst c.in_ok-made.made.items c.in_ok-sort.sort c.in_ok-pairs.pairs.items h there c.requires.inside c.requires.same
    (c.in_ok-made.ensures ∙ ap (made_sorts c.args.first) c.as_slice.ensures)
    (c.in_ok-inst.ensures ∙ (λ i. zip (map (λ p. Written p) (c.as_slice-2.ensures i)) (c.as_slice-3.ensures.value i))) c.in_ok-sort.ensures c.in_ok-pairs.ensures c.in_ok-subst.subst c.in_ok-subst.ensures c.add_app.new.store c.in_ok-term.term c.in_ok-check_app.field-0
    (rw c.as_slice-4.ensures.value at (c.in_ok-check_app.ensures.measured sig h)) (rw c.as_slice-5.ensures.value at c.in_ok-term.ensures.tree)

pub returns-clause-sorted : goal.returns-clause-sorted
returns-clause-sorted c = λ sig h there. c.add_app.ensures.sorted sig h
    (app-valid sig c.args.store.now c.args.symbol.now c.args.first c.args.args.now c.in_ok-inst.inst c.in_ok-made.made.items c.in_ok-sort.sort c.in_ok-pairs.pairs.items h there c.requires.inside c.requires.same
    (c.in_ok-made.ensures ∙ ap (made_sorts c.args.first) c.as_slice.ensures) (c.in_ok-inst.ensures ∙ (λ i. zip (map (λ p. Written p) (c.as_slice-2.ensures i)) (c.as_slice-3.ensures.value i))) c.in_ok-sort.ensures c.in_ok-pairs.ensures c.in_ok-subst.subst c.in_ok-subst.ensures)
    (rw c.as_slice-5.ensures.value (app-sorted sig c.args.store.now c.args.symbol.now c.args.first c.args.args.now c.in_ok-inst.inst c.in_ok-made.made.items c.in_ok-sort.sort c.in_ok-pairs.pairs.items h there c.requires.inside c.requires.same
    (c.in_ok-made.ensures ∙ ap (made_sorts c.args.first) c.as_slice.ensures) (c.in_ok-inst.ensures ∙ (λ i. zip (map (λ p. Written p) (c.as_slice-2.ensures i)) (c.as_slice-3.ensures.value i))) c.in_ok-sort.ensures c.in_ok-pairs.ensures c.in_ok-subst.subst c.in_ok-subst.ensures))
