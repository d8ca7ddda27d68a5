use Rattle.std.proofs.Common.{map}
use Rattle.ath_eval.specs.Applying.{sentences_made}
use Rattle.ath_eval.specs.Arguments.{piece_tree}
use Rattle.ath_eval.proofs.ConnectiveLaws.{connective_made, connective_refused}
use Rattle.ath_eval.proofs.connectives.connect.Goals as goal

pub returns-in-Ok-clause-built : goal.returns-in-Ok-clause-built
returns-in-Ok-clause-built c = let a = c.args in let w = a.w.now in let k = c.in-Ok in let t = c.sentences.new.w in
    connective_made w.sig a.conn (sentences_made w.sig (map (piece_tree w.store) a.parts.now)) t.store c.connective.new.store k.ids.items c.connective.result k.ensures.built (c.connective.ensures.built w.sig (rw k.ensures.rests.world.signature at t.sorted))

pub returns-in-Err-clause-built : goal.returns-in-Err-clause-built
returns-in-Err-clause-built c = let a = c.args in let w = a.w.now in let k = c.in-Err in
    connective_refused w.sig a.conn (sentences_made w.sig (map (piece_tree w.store) a.parts.now)) c.sentences.new.w.store k.error k.ensures.built
