use Rattle.ath_declarations.proofs.Joins.{JoinsTo}
use Rattle.ath_declarations.proofs.declaring.add_names.Given as goal

abbrev pub invariant-loop-name : goal.invariant-loop-name
invariant-loop-name l = JoinsTo l.shape.params.items l.shape.args.items l.shape.result l.fn.sig l.names l.name-index l.sig
