use Rattle.ath_eval.specs.Applying.{sentence_made}
use Rattle.ath_eval.specs.Arguments.{piece_tree}
use Rattle.ath_eval.proofs.QuantifierLaws.{part_refused}
use Rattle.ath_eval.proofs.quantifiers.quantify_part.Goals as goal

pub returns-in-Err-clause-built : goal.returns-in-Err-clause-built
returns-in-Err-clause-built c = let a = c.args in let w = a.w.now in let k = c.in-Err in
    part_refused w.sig a.q c.sentence_of.new.w.store a.vars.now (sentence_made w.sig (piece_tree w.store a.part)) k.error k.ensures.built
