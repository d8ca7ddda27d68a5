use Rattle.std.proofs.Common.{◌∙◌, ap}
use Rattle.ath_builder.specs.Names.{is_listed}
use Rattle.ath_builder.proofs.NameLaws.{seen_is_listed}
use Rattle.ath_builder.proofs.names.NameList.has.Goals as goal

pub returns : goal.returns
returns c = c.contains.ensures ∙ seen_is_listed c.args.name c.self.inside.seen.keys c.self.inside.names c.self.invariant ∙ ap (is_listed c.args.name) c.self.view_is
