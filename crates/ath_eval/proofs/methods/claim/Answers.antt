use Rattle.std.proofs.Common.{◌≡◌, Some, refl, ap, sym, ◌∙◌}
use Rattle.ath_terms.specs.Trees.{sent_at}
use Rattle.ath_env.specs.Values.{sentence_of}
use Rattle.ath_env.specs.Stands.{value_at}
use Rattle.ath_env.proofs.ValueLaws.{sentence-some}
use Rattle.ath_base.specs.Stands.{entries_in, entries_of}
use Rattle.ath_base.proofs.Scopes.{entries_grow, keeps-none}
use Rattle.ath_eval.specs.Methods as methods
use Rattle.ath_eval.proofs.Ponens.{same_answer}
use Rattle.ath_eval.proofs.methods.claim.Goals as goal

pub returns-in_ok-outcome-in-Some-clause-outcome : goal.returns-in_ok-outcome-in-Some-clause-outcome
returns-in_ok-outcome-in-Some-clause-outcome c = let a = c.args in let s = a.w.now.store in let w = a.w.now in let ns = w.base.nodes.items in let k = w.scope.0 in let t = c.sentence.new.store in
    let f = sentence-some t c.in_ok-p.field-0 (sentence_of (value_at s a.v)) c.in-Some.p c.in_ok-p.ensures.sentence c.in-Some.is in
    let e : sentence_of (value_at s a.v) ≡ Some (sent_at t.sents c.in-Some.p.0) = f.1 ∙ ap Some (sym f.2.1) in
    let b : entries_of t (entries_in ns k) ≡ entries_of s (entries_in ns k) = entries_grow s t c.in_ok-p.ensures.grows ns ns k w.in_store w.inside (keeps-none ns) in
    same_answer t c.in_ok-outcome-in-Some.outcome (methods.claim (entries_of s (entries_in ns k)) (sentence_of (value_at s a.v)) a.at) (methods.claim (entries_of t (entries_in ns k)) (Some (sent_at t.sents c.in-Some.p.0)) a.at) (rw (e, b) refl) c.in_ok-outcome-in-Some.ensures
