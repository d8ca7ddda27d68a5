use Rattle.std.proofs.Common.{◌∙◌, sym}
use Rattle.std.specs.Str.{bytes_eq}
use Rattle.ath_env.proofs.Tables.{lookup_hit, lookup_miss}
use Rattle.ath_env.proofs.lookup.find_in.Goals as goal

pub returns-then-eq : goal.returns-then-eq
returns-then-eq c = lookup_hit (λ row. (row.0.now, row.1)) (bytes_eq c.args.text.now) c.args.table.now c.loop-word.word-index _ c.loop-word-test.true c.loop-word.invariant (sym c.eq.ensures ∙ c.if-eq.true)

pub loop-word-preserved : goal.loop-word-preserved
loop-word-preserved c = lookup_miss (λ row. (row.0.now, row.1)) (bytes_eq c.args.text.now) c.args.table.now c.loop-word.word-index _ c.loop-word-test.true c.loop-word.invariant (sym c.eq.ensures ∙ c.if-eq.false)
