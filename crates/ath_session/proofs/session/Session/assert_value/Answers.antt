use Rattle.ath_session.proofs.SessionLaws.{no_sentence, sentence_asserted}
use Rattle.ath_session.proofs.session.Session.assert_value.Goals as goal

pub returns-in_default-clause-reply : goal.returns-in_default-clause-reply
returns-in_default-clause-reply c =
    no_sentence c.args.self.now.world c.sentence.new.store c.in_ok-p.ensures.grows c.args.value c.args.closed c.in_ok-p.field-0 c.in_ok-p.ensures.sentence _ c.in_ok-reply.reply c.args.place c.args.at c.plain-fault.result c.in_default.is c.plain-fault.ensures.kind c.plain-fault.ensures.args c.in_ok-reply.ensures

pub returns-clause-reply : goal.returns-clause-reply
returns-clause-reply c =
    sentence_asserted c.args.self.now.world c.sentence.new.store c.in_ok-p.ensures.grows c.args.value c.args.closed c.in_ok-p.field-0 c.in_ok-p.ensures.sentence c.assert_sentence.new.self.world c.in_ok-reply-2.reply c.args.place c.args.at c.in-Some.p c.in-Some.is c.in_ok-reply-2.ensures.reply
