use Rattle.ath_env.proofs.ValueLaws.{kept_boolean}
use Rattle.ath_env.proofs.value.sentence.Goals as goal

pub returns-in_ok-p-in-Term-clause-sorted : goal.returns-in_ok-p-in-Term-clause-sorted
returns-in_ok-p-in-Term-clause-sorted c = λ sig h. c.in_ok-p-in-Term.ensures.sorted sig h (kept_boolean c.args.store.now c.in-Term.t c.sort_of.result.now c.is_boolean.result c.sort_of.ensures c.is_boolean.ensures c.if-not-is_boolean.false)
