use Rattle.std.proofs.Common.{ap, sym, ◌∙◌}
use Rattle.ath_session.specs.Directives.{declaration_refusal, refusing, limited}
use Rattle.ath_session.specs.Session.{state_of}
use Rattle.ath_session.proofs.DeclareLaws.{same_flaw}
use Rattle.ath_session.proofs.SessionLaws.{reply_as}
use Rattle.ath_session.proofs.session.Session.refuse_declaration.Goals as goal

pub refusal-requires : goal.refusal-requires
refusal-requires c = (c.in_ok-fault.ensures c.args.self.now.world.store).0

pub returns-clause-reply : goal.returns-clause-reply
returns-clause-reply c f e =
    reply_as c.args.self.now.world c.in_ok-reply.reply _ _
    (ap (λ y. limited (state_of c.args.self.now.world) c.args.at (refusing (state_of c.args.self.now.world) c.args.at y)) ((c.in_ok-fault.ensures c.args.self.now.world.store).1 ∙ ap declaration_refusal (same_flaw _ f (sym c.in-Flawed.is ∙ e))))
    c.in_ok-reply.ensures
