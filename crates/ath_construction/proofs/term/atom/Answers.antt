use Rattle.std.proofs.Common.{◌∙◌}
use Rattle.std.proofs.lemmas.Result.{err_from_is_err_and}
use Rattle.ath_sorts.specs.Sorts.{image}
use Rattle.ath_terms.proofs.Grow.{grows-none}
use Rattle.ath_construction.proofs.TermLaws.{atom-unsolved, atom-unmeasured, atom-built, term-sides, boolean-valid, boolean-stays, term-valid}
use Rattle.ath_construction.proofs.term.atom.Goals as goal

pub returns-in_err-subst-clause-built : goal.returns-in_err-subst-clause-built
returns-in_err-subst-clause-built c =
    let p = err_from_is_err_and c.from_residual-in_err-subst.result c.from_residual-in_err-subst.ensures.1 in
    rw (p.1, p.2) (λ sig h. atom-unsolved sig c.args.store.now c.args.t h c.requires c.in_ok-pairs.pairs.items c.in_ok-boolean.boolean c.in_ok-boolean.ensures c.in_ok-pairs.ensures c.args.store.now (grows-none c.args.store.now) _ c.in_err-subst.ensures)

pub returns-in_err-check_term-clause-built : goal.returns-in_err-check_term-clause-built
returns-in_err-check_term-clause-built c =
    let p = err_from_is_err_and c.from_residual-in_err-check_term.result c.from_residual-in_err-check_term.ensures.1 in
    rw (p.1, p.2)
    (λ sig h. atom-unmeasured sig c.args.store.now c.args.t h c.requires c.in_ok-pairs.pairs.items c.in_ok-boolean.boolean c.in_ok-boolean.ensures
    c.in_ok-pairs.ensures c.args.store.now (grows-none c.args.store.now) c.in_ok-subst.subst c.in_ok-subst.ensures _ (c.in_err-check_term.ensures sig h))

pub returns-in_err-sent-clause-sorted : goal.returns-in_err-sent-clause-sorted
returns-in_err-sent-clause-sorted c = λ sig h. c.add_atom.ensures.sorted sig h
    (term-valid sig c.args.store.now c.args.t.0 c.in_ok-boolean.boolean h c.requires c.in_ok-pairs.pairs.items c.in_ok-pairs.ensures c.in_ok-subst.subst c.in_ok-subst.ensures (boolean-valid sig c.args.store.now h c.in_ok-boolean.boolean c.in_ok-boolean.ensures))
    (term-sides sig c.args.store.now c.args.t.0 c.in_ok-boolean.boolean h c.requires c.in_ok-pairs.pairs.items c.in_ok-pairs.ensures c.in_ok-subst.subst c.in_ok-subst.ensures ∙ boolean-stays (image c.in_ok-subst.subst) c.in_ok-boolean.boolean c.in_ok-boolean.ensures)

pub returns-clause-built : goal.returns-clause-built
returns-clause-built c = λ sig h. atom-built sig c.args.store.now c.args.t h c.requires c.in_ok-pairs.pairs.items c.in_ok-boolean.boolean c.in_ok-boolean.ensures c.in_ok-pairs.ensures
    c.add_atom.new.store c.in_ok-sent.ensures.grows c.in_ok-subst.subst c.in_ok-subst.ensures c.in_ok-sent.sent c.in_ok-check_term.field-0
    (c.in_ok-check_term.ensures sig h) c.in_ok-sent.ensures.tree

pub returns-clause-sorted : goal.returns-clause-sorted
returns-clause-sorted c = λ sig h. c.add_atom.ensures.sorted sig h
    (term-valid sig c.args.store.now c.args.t.0 c.in_ok-boolean.boolean h c.requires c.in_ok-pairs.pairs.items c.in_ok-pairs.ensures c.in_ok-subst.subst c.in_ok-subst.ensures (boolean-valid sig c.args.store.now h c.in_ok-boolean.boolean c.in_ok-boolean.ensures))
    (term-sides sig c.args.store.now c.args.t.0 c.in_ok-boolean.boolean h c.requires c.in_ok-pairs.pairs.items c.in_ok-pairs.ensures c.in_ok-subst.subst c.in_ok-subst.ensures ∙ boolean-stays (image c.in_ok-subst.subst) c.in_ok-boolean.boolean c.in_ok-boolean.ensures)
