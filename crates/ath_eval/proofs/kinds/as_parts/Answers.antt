use Rattle.std.proofs.Common.{◌+◌, drop, map, arith}
use Rattle.ath_eval.specs.Arguments.{piece_value}
use Rattle.ath_eval.proofs.KindLaws.{front_at}
use Rattle.ath_eval.proofs.kinds.as_parts.Goals as goal

pub returns-in-None : goal.returns-in-None
returns-in-None c = let l = c.loop-arg in
    (l.found.items, _, drop (l.arg-index + 1) c.args.args.now, front_at c.args.args.now (map piece_value l.found.items) l.arg-index _ (omega arith) l.invariant, c.in-None.ensures, omega (arith, c.len.ensures))
