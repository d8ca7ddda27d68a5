use Rattle.std.proofs.Common.{sym, ◌∙◌, arith}
use Rattle.ath_subst.proofs.OccurrenceLaws.{least-is, last-is}
use Rattle.ath_subst.proofs.occurrences.least_index.Goals as goal

pub returns-then-not-is_index_used : goal.returns-then-not-is_index_used
returns-then-not-is_index_used c = least-is c.loop-i.i c.args.v.now c.args.used.now c.loop-i.invariant (sym c.is_index_used.ensures ∙ c.if-not-is_index_used.true)

pub returns : goal.returns
returns c = last-is c.args.v.now c.args.used.now (λ j l. c.loop-i.invariant j (omega arith))
