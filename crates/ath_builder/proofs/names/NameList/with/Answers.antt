use Rattle.ath_builder.proofs.NameLaws.{noted_with}
use Rattle.ath_builder.proofs.names.NameList.with.Goals as goal

pub invariant_of-result : goal.invariant_of-result
invariant_of-result c = noted_with c.self.inside.seen.keys c.note.new.seen.keys c.self.inside.names c.push.new.self c.args.name c.self.invariant c.in_ok-push.ensures.ok c.in_ok-note.ensures
