use Rattle.std.proofs.Common.{sym, ◌∙◌, refl}
use Rattle.ath_base.specs.Stands.{entries_in}
use Rattle.ath_session.specs.Session.{state_of}
use Rattle.ath_session.specs.declared.session.Next.TheVariants.{Go}
use Rattle.ath_session.proofs.LimitLaws.{long_answer, short_answer}
use Rattle.ath_session.proofs.SessionLaws.{joined_state}
use Rattle.ath_session.proofs.session.Session.join.Goals as goal

pub returns-then-branch-clause-reply : goal.returns-then-branch-clause-reply
returns-then-branch-clause-reply c =
    long_answer c.too_long.result (state_of c.args.self.now.world) c.args.place _ c.args.self.now.world _ refl (sym c.if-branch.true ∙ c.in_ok-is_too_long.ensures) refl c.too_long.ensures

pub returns-clause-reply : goal.returns-clause-reply
returns-clause-reply c =
    short_answer c.replying.result (state_of c.args.self.now.world) c.args.place _ _ c.args.event Go c.requires.known refl refl (joined_state c.args.self.now.world (entries_in c.add.new.self.nodes.items c.in_ok-scope.scope.0) c.args.p c.args.origin c.in_ok-scope.ensures.added) (sym c.if-branch.false ∙ c.in_ok-is_too_long.ensures) c.replying.ensures
