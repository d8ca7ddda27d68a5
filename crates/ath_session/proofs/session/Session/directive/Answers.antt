use Rattle.ath_session.proofs.SoundLaws.{theorems_follow}
use Rattle.ath_session.proofs.session.Session.directive.Goals as goal

pub returns-clause-theorems : goal.returns-clause-theorems
returns-clause-theorems c = theorems_follow c.args.self.now.world c.answer.new.self.world c.args.directive.now c.requires.directive c.requires.differ c.in_ok-reply.reply c.in_ok-reply.ensures.reply
