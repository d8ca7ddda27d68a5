use Rattle.std.proofs.Common.{◌∙◌, sym}
use Rattle.ath_session.proofs.ReplyLaws.{unbuilt_answered, built_answered}
use Rattle.ath_session.proofs.session.Session.answer.Goals as goal

pub returns-in-Some-clause-reply : goal.returns-in-Some-clause-reply
returns-in-Some-clause-reply c =
    unbuilt_answered c.args.self.now.world c.args.directive.now c.in_ok-reply.reply c.in-Some.at c.plain-fault.result (λ x h. sym c.in-Some.is ∙ c.unbuilt_in-unbuilt.ensures x h) c.plain-fault.ensures.kind c.plain-fault.ensures.args c.in_ok-reply.ensures

pub returns-clause-reply : goal.returns-clause-reply
returns-clause-reply c =
    built_answered c.args.self.now.world c.args.directive.now c.run_built.new.self.world c.run_built.result (λ x h. sym c.in_default.is ∙ c.unbuilt_in-unbuilt.ensures x h) c.run_built.ensures.reply
