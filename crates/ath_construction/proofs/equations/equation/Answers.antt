use Rattle.std.proofs.lemmas.Result.{err_from_is_err_and}
use Rattle.ath_construction.proofs.EquationLaws.{equation-unsolved, equation-unmeasured, equation-built, equation-valid, equation-sides}
use Rattle.ath_construction.proofs.equations.equation.Goals as goal

pub returns-in_err-subst-clause-built : goal.returns-in_err-subst-clause-built
returns-in_err-subst-clause-built c =
    let p = err_from_is_err_and c.from_residual-in_err-subst.result c.from_residual-in_err-subst.ensures.1 in
    rw (p.1, p.2) (λ sig h. equation-unsolved sig c.args.store.now c.args.s.0 c.args.t.0 h c.requires.left c.requires.right c.in_ok-pairs.pairs.items c.in_ok-pairs.ensures c.args.store.now _ c.in_err-subst.ensures)

pub returns-in_err-check_equation-clause-built : goal.returns-in_err-check_equation-clause-built
returns-in_err-check_equation-clause-built c =
    let p = err_from_is_err_and c.from_residual-in_err-check_equation.result c.from_residual-in_err-check_equation.ensures.1 in
    rw (p.1, p.2) (λ sig h. equation-unmeasured sig c.args.store.now c.args.s.0 c.args.t.0 h c.requires.left c.requires.right c.in_ok-pairs.pairs.items c.in_ok-pairs.ensures c.in_ok-subst.subst c.in_ok-subst.ensures c.args.store.now _ (c.in_err-check_equation.ensures.measured sig h))

pub returns-in_err-sent-clause-sorted : goal.returns-in_err-sent-clause-sorted
returns-in_err-sent-clause-sorted c = λ sig h. c.add_equation.ensures.sorted sig h
    (equation-valid sig c.args.store.now c.args.s.0 c.args.t.0 h c.requires.left c.requires.right c.in_ok-pairs.pairs.items c.in_ok-pairs.ensures c.in_ok-subst.subst c.in_ok-subst.ensures)
    (equation-sides sig c.args.store.now c.args.s.0 c.args.t.0 h c.requires.left c.requires.right c.in_ok-pairs.pairs.items c.in_ok-pairs.ensures c.in_ok-subst.subst c.in_ok-subst.ensures)

pub returns-clause-built : goal.returns-clause-built
returns-clause-built c = λ sig h. equation-built sig c.args.store.now c.args.s.0 c.args.t.0 h c.requires.left c.requires.right c.in_ok-pairs.pairs.items c.in_ok-pairs.ensures c.in_ok-subst.subst c.in_ok-subst.ensures c.add_equation.new.store c.in_ok-sent.sent c.in_ok-check_equation.field-0
    (c.in_ok-check_equation.ensures.measured sig h) c.in_ok-sent.ensures.tree

pub returns-clause-sorted : goal.returns-clause-sorted
returns-clause-sorted c = λ sig h. c.add_equation.ensures.sorted sig h
    (equation-valid sig c.args.store.now c.args.s.0 c.args.t.0 h c.requires.left c.requires.right c.in_ok-pairs.pairs.items c.in_ok-pairs.ensures c.in_ok-subst.subst c.in_ok-subst.ensures)
    (equation-sides sig c.args.store.now c.args.s.0 c.args.t.0 h c.requires.left c.requires.right c.in_ok-pairs.pairs.items c.in_ok-pairs.ensures c.in_ok-subst.subst c.in_ok-subst.ensures)
