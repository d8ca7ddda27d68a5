use Rattle.std.proofs.lemmas.Result.{err_from_is_err_and}
use Rattle.ath_construction.proofs.ConnectiveLaws.{sents_of, connective-unsolved, connective-unmeasured, connective-built, connective-valid, parts-well, sents-counted}
use Rattle.ath_construction.proofs.connectives.build_connective.Goals as goal

pub returns-in_err-subst-clause-built : goal.returns-in_err-subst-clause-built
returns-in_err-subst-clause-built c =
    let p = err_from_is_err_and c.from_residual-in_err-subst.result c.from_residual-in_err-subst.ensures.1 in
    rw (p.1, p.2) (λ sig h. connective-unsolved sig c.args.c (sents_of c.args.store.now c.args.parts.now) _ c.requires.count (sents-counted c.args.store.now c.args.parts.now) c.in_ok-pairs.pairs.items c.in_ok-pairs.ensures c.args.store.now _ c.in_err-subst.ensures)

pub returns-in_err-check_connective-clause-built : goal.returns-in_err-check_connective-clause-built
returns-in_err-check_connective-clause-built c =
    let p = err_from_is_err_and c.from_residual-in_err-check_connective.result c.from_residual-in_err-check_connective.ensures.1 in
    rw (p.1, p.2)
    (λ sig h. connective-unmeasured sig c.args.c (sents_of c.args.store.now c.args.parts.now) _ c.requires.count (sents-counted c.args.store.now c.args.parts.now)
    c.in_ok-pairs.pairs.items c.in_ok-pairs.ensures c.in_ok-subst.subst c.in_ok-subst.ensures c.args.store.now _ (c.in_err-check_connective.ensures.measured sig h))

pub returns-in_err-sent-clause-sorted : goal.returns-in_err-sent-clause-sorted
returns-in_err-sent-clause-sorted c = λ sig h. c.add_connected.ensures.sorted sig h
    (connective-valid sig c.args.c (sents_of c.args.store.now c.args.parts.now) _ c.requires.count (sents-counted c.args.store.now c.args.parts.now)
    c.in_ok-pairs.pairs.items c.in_ok-pairs.ensures c.in_ok-subst.subst c.in_ok-subst.ensures (parts-well sig c.args.store.now c.args.parts.now h c.requires.inside))

pub returns-clause-built : goal.returns-clause-built
returns-clause-built c = λ sig h. connective-built sig c.args.c (sents_of c.args.store.now c.args.parts.now) _ c.requires.count
    (sents-counted c.args.store.now c.args.parts.now) c.in_ok-pairs.pairs.items c.in_ok-pairs.ensures c.in_ok-subst.subst c.in_ok-subst.ensures c.add_connected.new.store c.in_ok-sent.sent c.in_ok-check_connective.field-0
    (c.in_ok-check_connective.ensures.measured sig h) c.in_ok-sent.ensures.tree

pub returns-clause-sorted : goal.returns-clause-sorted
returns-clause-sorted c = λ sig h. c.add_connected.ensures.sorted sig h
    (connective-valid sig c.args.c (sents_of c.args.store.now c.args.parts.now) _ c.requires.count (sents-counted c.args.store.now c.args.parts.now)
    c.in_ok-pairs.pairs.items c.in_ok-pairs.ensures c.in_ok-subst.subst c.in_ok-subst.ensures (parts-well sig c.args.store.now c.args.parts.now h c.requires.inside))
