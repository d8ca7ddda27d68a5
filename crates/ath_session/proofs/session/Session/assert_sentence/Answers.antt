use Rattle.ath_session.proofs.SessionLaws.{built_joined, fault_in, built_refused}
use Rattle.ath_session.proofs.session.Session.assert_sentence.Goals as goal

pub returns-in_ok-reply-in-Ok-clause-reply : goal.returns-in_ok-reply-in-Ok-clause-reply
returns-in_ok-reply-in-Ok-clause-reply c =
    built_joined c.args.self.now.world c.to_assert.new.store c.to_assert.ensures.grows _ c.to_assert.result c.to_assert.ensures.built c.join.new.self.world c.in_ok-reply-in-Ok.reply c.args.place c.args.at c.in-Ok.p c.in-Ok.is c.in_ok-reply-in-Ok.ensures.reply

pub refusal-requires : goal.refusal-requires
refusal-requires c =
    fault_in c.args.self.now.world c.to_assert.new.store c.to_assert.ensures.grows _ c.to_assert.result c.to_assert.ensures.built c.in-Err.error c.in_ok-fault-in-Err.fault c.in-Err.is c.in_ok-fault-in-Err.ensures.memory (c.in_ok-fault-in-Err.ensures.fault c.to_assert.new.store)

pub returns-in_ok-reply-in-Err-clause-reply : goal.returns-in_ok-reply-in-Err-clause-reply
returns-in_ok-reply-in-Err-clause-reply c =
    built_refused c.args.self.now.world c.to_assert.new.store c.to_assert.ensures.grows _ c.to_assert.result c.to_assert.ensures.built c.in-Err.error c.in_ok-fault-in-Err.fault c.in-Err.is c.in_ok-fault-in-Err.ensures.memory (c.in_ok-fault-in-Err.ensures.fault c.to_assert.new.store) _ c.in_ok-reply-in-Err.reply c.args.place c.args.at c.in_ok-reply-in-Err.ensures
