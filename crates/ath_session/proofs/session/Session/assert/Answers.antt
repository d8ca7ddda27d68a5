use Rattle.ath_session.proofs.ReplyLaws.{value_assertion, theorem_assertion, error_assertion, spent_assertion}
use Rattle.ath_session.proofs.session.Session.assert.Goals as goal

pub returns-in-Value-clause-reply : goal.returns-in-Value-clause-reply
returns-in-Value-clause-reply c =
    value_assertion c.args.self.now.world c.run.new.w c.run.ensures.world c.run.ensures.scope c.args.phrase c.in_ok-value.field-0 c.args.place c.in_ok-value.ensures.outcome c.assert_value.new.self.world c.assert_value.result c.args.closed c.node.result.now c.in-Value.value c.node.ensures.node c.in-Value.is c.assert_value.ensures.reply

pub returns-in-Theorem-clause-reply : goal.returns-in-Theorem-clause-reply
returns-in-Theorem-clause-reply c =
    theorem_assertion c.args.self.now.world c.run.new.w c.run.ensures.world c.run.ensures.scope c.args.phrase c.in_ok-value.field-0 c.args.place c.in_ok-value.ensures.outcome c.assert_value-in-Theorem.new.self.world c.assert_value-in-Theorem.result c.args.closed c.node.result.now c.in-Theorem.p c.node.ensures.node c.in-Theorem.is c.assert_value-in-Theorem.ensures.reply

pub returns-in-Error-clause-reply : goal.returns-in-Error-clause-reply
returns-in-Error-clause-reply c =
    error_assertion c.args.self.now.world c.run.new.w c.run.ensures.world c.run.ensures.scope c.args.phrase c.in_ok-value.field-0 c.args.place c.in_ok-value.ensures.outcome c.refusal.result c.args.closed c.in-Error.at c.in-Error.fault c.in-Error.is c.refusal.ensures

pub returns-in-Exhausted-clause-reply : goal.returns-in-Exhausted-clause-reply
returns-in-Exhausted-clause-reply c =
    spent_assertion c.args.self.now.world c.run.new.w c.run.ensures.world c.run.ensures.scope c.args.phrase c.in_ok-value.field-0 c.args.place c.in_ok-value.ensures.outcome c.reply.result c.args.closed c.in-Exhausted.at c.in-Exhausted.is c.reply.ensures
