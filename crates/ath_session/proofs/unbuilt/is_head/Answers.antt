use Rattle.ath_session.proofs.UnbuiltLaws.{head_here, no_head_here}
use Rattle.ath_session.proofs.unbuilt.is_head.Goals as goal

pub returns-in-Name : goal.returns-in-Name
returns-in-Name c = head_here c.args.phrases.now c.args.phrase c.node.result.now c.in-Name.field-0 c.node.ensures.node c.in-Name.is

pub returns-in_default : goal.returns-in_default
returns-in_default c = no_head_here c.args.phrases.now c.args.phrase c.node.result.now c.node.ensures.node (λ y e. c.in_default.not-Name y e)
