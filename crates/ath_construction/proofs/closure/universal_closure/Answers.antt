use Rattle.std.proofs.Common.{◌-◌, ◌∙◌, Ok, Err, arith}
use Rattle.std.proofs.lemmas.Result.{err_from_is_err_and}
use Rattle.ath_terms.specs.Trees.{sent_at}
use Rattle.ath_terms.proofs.Grow.{grows-then}
use Rattle.ath_construction.proofs.ClosureLaws.{refused-closure, closed-before, valid-before}
use Rattle.ath_construction.proofs.closure.universal_closure.Goals as goal

pub returns-in_err-sent-clause-built : goal.returns-in_err-sent-clause-built
returns-in_err-sent-clause-built c =
    let r = err_from_is_err_and c.from_residual-in_err-sent.result c.from_residual-in_err-sent.ensures.1 in
    let t = c.loop-i-test.true in
    let w = c.loop-i.invariant.within in
    rw (r.1, r.2) (refused-closure c.close_one.new.store (sent_at c.args.store.now.sents c.args.p.0) c.as_slice-variables.result.now (c.loop-i.i - 1) c.in_err-sent.field-0.0
    (c.as_slice-variables.ensures.value ∙ c.in_ok-found.ensures)
    (closed-before (sent_at c.args.store.now.sents c.args.p.0) c.as_slice-variables.result.now (c.loop-i.i - 1) c.index-variables-i.result (omega arith) c.index-variables-i.is
    c.loop-i.i c.loop-i.store c.close_one.new.store c.loop-i.sent.0 (Err c.in_err-sent.field-0.0) (omega arith) c.loop-i.invariant.built c.in_err-sent.ensures.built))

pub returns-in_err-sent-clause-sorted : goal.returns-in_err-sent-clause-sorted
returns-in_err-sent-clause-sorted c = λ sig h.
    let t = c.loop-i-test.true in
    let w = c.loop-i.invariant.within in
    c.close_one.ensures.sorted sig (c.loop-i.invariant.sorted sig h)
    (valid-before (sent_at c.args.store.now.sents c.args.p.0) c.as_slice-variables.result.now (c.loop-i.i - 1) c.index-variables-i.result (omega arith) c.index-variables-i.is
    sig (c.as_slice-variables.ensures.value ∙ c.in_ok-found.ensures) (h.sents c.args.p.0 c.requires))

pub loop-i-preserved : goal.loop-i-preserved
loop-i-preserved c =
    let t = c.loop-i-test.true in
    let w = c.loop-i.invariant.within in
    record {
      within = omega arith;
      grows = grows-then _ _ _ c.loop-i.invariant.grows c.in_ok-sent.ensures.grows;
      built = closed-before (sent_at c.args.store.now.sents c.args.p.0) c.as_slice-variables.result.now (c.loop-i.i - 1) c.index-variables-i.result (omega arith) c.index-variables-i.is
          c.loop-i.i c.loop-i.store c.close_one.new.store c.loop-i.sent.0 (Ok c.in_ok-sent.sent) (omega arith) c.loop-i.invariant.built c.in_ok-sent.ensures.built;
      sorted = λ sig h. c.in_ok-sent.ensures.sorted sig (c.loop-i.invariant.sorted sig h)
          (valid-before (sent_at c.args.store.now.sents c.args.p.0) c.as_slice-variables.result.now (c.loop-i.i - 1) c.index-variables-i.result (omega arith) c.index-variables-i.is
          sig (c.as_slice-variables.ensures.value ∙ c.in_ok-found.ensures) (h.sents c.args.p.0 c.requires));
    }
