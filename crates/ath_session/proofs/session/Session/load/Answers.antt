use Rattle.std.proofs.Common.{ap}
use Rattle.ath_session.proofs.SessionLaws.{load_told}
use Rattle.ath_session.specs.Directives.{loads}
use Rattle.ath_session.proofs.session.Session.load.Goals as goal

pub returns : goal.returns
returns c = load_told c.args.self.now.world _ c.args.name.now c.new.ensures.items (ap loads c.in_ok-name.ensures.ok)
