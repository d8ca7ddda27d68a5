use Rattle.std.proofs.Common.{ap}
use Rattle.ath_terms.specs.Trees.{sent_at}
use Rattle.ath_env.specs.Values.{sentence_of}
use Rattle.ath_env.specs.Stands.{value_at}
use Rattle.ath_eval.specs.Methods as methods
use Rattle.ath_eval.specs.World.{environment_of}
use Rattle.ath_eval.proofs.Ponens.{same_answer, of_implication}
use Rattle.ath_eval.proofs.methods.modus_ponens.Goals as goal

pub returns-in_ok-outcome-in-Some-clause-outcome : goal.returns-in_ok-outcome-in-Some-clause-outcome
returns-in_ok-outcome-in-Some-clause-outcome c = let a = c.args in let s = a.w.now.store in let k = c.in-Some.parts in
    let e = of_implication (environment_of a.w.now).base (sent_at s.sents a.p.0) (sent_at s.sents k.0.0) (sent_at s.sents k.1.0) (sentence_of (value_at s a.v)) c.in-Some.ensures.2 in
    same_answer c.from_implication.new.w.store c.in_ok-outcome-in-Some.outcome (methods.modus_ponens (environment_of a.w.now).base (sent_at s.sents a.p.0) (sentence_of (value_at s a.v)) a.at) (methods.from_implication (environment_of a.w.now).base (sent_at s.sents a.p.0) (sent_at s.sents k.0.0) (sent_at s.sents k.1.0) (sentence_of (value_at s a.v)) a.at) (ap (λ f. f a.at) e) c.in_ok-outcome-in-Some.ensures.outcome
