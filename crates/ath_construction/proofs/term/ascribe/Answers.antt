use Rattle.std.proofs.lemmas.Result.{err_from_is_err_and}
use Rattle.ath_construction.proofs.TermLaws.{ascription-unsolved, ascription-unmeasured, ascription-built, term-valid}
use Rattle.ath_construction.proofs.term.ascribe.Goals as goal

pub returns-in_err-subst-clause-built : goal.returns-in_err-subst-clause-built
returns-in_err-subst-clause-built c =
    let p = err_from_is_err_and c.from_residual-in_err-subst.result c.from_residual-in_err-subst.ensures.1 in
    rw (p.1, p.2) (λ sig h. ascription-unsolved sig c.args.store.now c.args.t.0 c.args.sort.now h c.requires c.in_ok-pairs.pairs.items c.in_ok-pairs.ensures c.args.store.now _ c.in_err-subst.ensures)

pub returns-in_err-check_term-clause-built : goal.returns-in_err-check_term-clause-built
returns-in_err-check_term-clause-built c =
    let p = err_from_is_err_and c.from_residual-in_err-check_term.result c.from_residual-in_err-check_term.ensures.1 in
    rw (p.1, p.2) (λ sig h. ascription-unmeasured sig c.args.store.now c.args.t.0 c.args.sort.now h c.requires c.in_ok-pairs.pairs.items c.in_ok-pairs.ensures c.in_ok-subst.subst c.in_ok-subst.ensures c.args.store.now _ (c.in_err-check_term.ensures sig h))

pub returns-in_err-term-clause-sorted : goal.returns-in_err-term-clause-sorted
returns-in_err-term-clause-sorted c = λ sig h good. c.term_under.ensures.sorted sig h
    (term-valid sig c.args.store.now c.args.t.0 c.args.sort.now h c.requires c.in_ok-pairs.pairs.items c.in_ok-pairs.ensures c.in_ok-subst.subst c.in_ok-subst.ensures good)

pub returns-clause-built : goal.returns-clause-built
returns-clause-built c = λ sig h. ascription-built sig c.args.store.now c.args.t.0 c.args.sort.now h c.requires c.in_ok-pairs.pairs.items c.in_ok-pairs.ensures c.in_ok-subst.subst c.in_ok-subst.ensures c.term_under.new.store c.in_ok-term.term c.in_ok-check_term.field-0
    (c.in_ok-check_term.ensures sig h) c.in_ok-term.ensures.tree

pub returns-clause-sorted : goal.returns-clause-sorted
returns-clause-sorted c = λ sig h good. c.term_under.ensures.sorted sig h
    (term-valid sig c.args.store.now c.args.t.0 c.args.sort.now h c.requires c.in_ok-pairs.pairs.items c.in_ok-pairs.ensures c.in_ok-subst.subst c.in_ok-subst.ensures good)
