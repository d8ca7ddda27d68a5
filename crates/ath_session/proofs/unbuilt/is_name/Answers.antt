use Rattle.std.proofs.Common.{◌∙◌, ap}
use Rattle.std.specs.Str.{bytes_eq}
use Rattle.ath_session.proofs.UnbuiltLaws.{name_here, no_name_here}
use Rattle.ath_session.proofs.unbuilt.is_name.Goals as goal

pub returns-in-Name : goal.returns-in-Name
returns-in-Name c = λ x h.
    c.eq.ensures ∙ ap (λ t. bytes_eq t c.args.text.now) c.text_of.ensures ∙ name_here c.args.phrases.now c.args.names.now c.args.text.now c.args.phrase c.node.result.now c.in-Name.name c.node.ensures.node c.in-Name.is x h

pub returns-in_default : goal.returns-in_default
returns-in_default c = no_name_here c.args.phrases.now c.args.names.now c.args.text.now c.args.phrase c.node.result.now c.node.ensures.node (λ y e. c.in_default.not-Name y e)
