use Rattle.ath_session.proofs.ReplyLaws.{value_showing, theorem_showing, error_showing, spent_showing}
use Rattle.ath_session.proofs.session.Session.show.Goals as goal

pub returns-in-Value-clause-reply : goal.returns-in-Value-clause-reply
returns-in-Value-clause-reply c =
    value_showing c.args.self.now.world c.run.new.w c.run.ensures.world c.run.ensures.scope c.args.phrase c.in_ok-value.field-0 c.args.place c.in_ok-value.ensures.outcome c.reply.result c.in-Value.value c.in-Value.is c.reply.ensures

pub returns-in_ok-reply-in-Theorem-clause-reply : goal.returns-in_ok-reply-in-Theorem-clause-reply
returns-in_ok-reply-in-Theorem-clause-reply c =
    theorem_showing c.args.self.now.world c.run.new.w c.run.ensures.world c.run.ensures.scope c.args.phrase c.in_ok-value.field-0 c.args.place c.in_ok-value.ensures.outcome c.join.new.self.world c.in_ok-reply-in-Theorem.reply c.in-Theorem.p c.in-Theorem.is c.in_ok-reply-in-Theorem.ensures.reply

pub returns-in-Error-clause-reply : goal.returns-in-Error-clause-reply
returns-in-Error-clause-reply c =
    error_showing c.args.self.now.world c.run.new.w c.run.ensures.world c.run.ensures.scope c.args.phrase c.in_ok-value.field-0 c.args.place c.in_ok-value.ensures.outcome c.refusal.result c.in-Error.at c.in-Error.fault c.in-Error.is c.refusal.ensures

pub returns-in-Exhausted-clause-reply : goal.returns-in-Exhausted-clause-reply
returns-in-Exhausted-clause-reply c =
    spent_showing c.args.self.now.world c.run.new.w c.run.ensures.world c.run.ensures.scope c.args.phrase c.in_ok-value.field-0 c.args.place c.in_ok-value.ensures.outcome c.reply-in-Exhausted.result c.in-Exhausted.at c.in-Exhausted.is c.reply-in-Exhausted.ensures
