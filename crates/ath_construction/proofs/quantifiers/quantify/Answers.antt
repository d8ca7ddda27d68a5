use Rattle.std.proofs.lemmas.Result.{err_from_is_err_and}
use Rattle.ath_terms.specs.Trees.{sent_at}
use Rattle.ath_construction.proofs.QuantifierLaws.{quantifier-unsolved, quantifier-unmeasured, quantifier-built, quantifier-valid}
use Rattle.ath_construction.proofs.quantifiers.quantify.Goals as goal

pub returns-in_err-subst-clause-built : goal.returns-in_err-subst-clause-built
returns-in_err-subst-clause-built c =
    let p = err_from_is_err_and c.from_residual-in_err-subst.result c.from_residual-in_err-subst.ensures.1 in
    rw (p.1, p.2) (λ sig h. quantifier-unsolved sig c.args.q c.args.v.now (sent_at c.args.store.now.sents c.args.body.0) c.in_ok-pairs.pairs.items c.in_ok-pairs.ensures
    c.args.store.now _ c.in_err-subst.ensures)

pub returns-in_err-check_quantifier-clause-built : goal.returns-in_err-check_quantifier-clause-built
returns-in_err-check_quantifier-clause-built c =
    let p = err_from_is_err_and c.from_residual-in_err-check_quantifier.result c.from_residual-in_err-check_quantifier.ensures.1 in
    rw (p.1, p.2) (λ sig h. quantifier-unmeasured sig c.args.q c.args.v.now (sent_at c.args.store.now.sents c.args.body.0) c.in_ok-pairs.pairs.items c.in_ok-pairs.ensures
    c.in_ok-subst.subst c.in_ok-subst.ensures c.args.store.now _ (c.in_err-check_quantifier.ensures.measured sig h c.args.q))

pub add_quantifier-requires-clause-small : goal.add_quantifier-requires-clause-small
add_quantifier-requires-clause-small c = c.in_ok-check_quantifier.ensures.few c.args.q

pub returns-in_err-sent-clause-sorted : goal.returns-in_err-sent-clause-sorted
returns-in_err-sent-clause-sorted c = λ sig h s. c.add_quantifier.ensures.sorted sig h
    (quantifier-valid sig c.args.q c.args.v.now (sent_at c.args.store.now.sents c.args.body.0) c.in_ok-pairs.pairs.items c.in_ok-pairs.ensures
    c.in_ok-subst.subst c.in_ok-subst.ensures s (h.sents c.args.body.0 c.requires)) s

pub returns-clause-built : goal.returns-clause-built
returns-clause-built c = λ sig h. quantifier-built sig c.args.q c.args.v.now (sent_at c.args.store.now.sents c.args.body.0) c.in_ok-pairs.pairs.items c.in_ok-pairs.ensures
    c.in_ok-subst.subst c.in_ok-subst.ensures c.add_quantifier.new.store c.in_ok-sent.sent c.in_ok-check_quantifier.field-0 (c.in_ok-check_quantifier.ensures.measured sig h c.args.q) c.in_ok-sent.ensures.tree

pub returns-clause-sorted : goal.returns-clause-sorted
returns-clause-sorted c = λ sig h s. c.add_quantifier.ensures.sorted sig h
    (quantifier-valid sig c.args.q c.args.v.now (sent_at c.args.store.now.sents c.args.body.0) c.in_ok-pairs.pairs.items c.in_ok-pairs.ensures
    c.in_ok-subst.subst c.in_ok-subst.ensures s (h.sents c.args.body.0 c.requires)) s
