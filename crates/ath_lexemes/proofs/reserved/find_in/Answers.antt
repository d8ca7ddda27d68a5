use Rattle.std.proofs.Common.{◌∙◌, sym}
use Rattle.std.specs.Str.{bytes_eq}
use Rattle.ath_lexemes.proofs.Rows.{lookup_hit, lookup_miss}
use Rattle.ath_lexemes.proofs.reserved.find_in.Goals as goal

pub returns-then-eq : goal.returns-then-eq
returns-then-eq c = lookup_hit (λ row. (row.0.now, row.1)) (bytes_eq c.args.word.now) c.args.table.now c.loop-text.text-index _ c.loop-text-test.true c.loop-text.invariant (sym c.eq.ensures ∙ c.if-eq.true)

pub loop-text-preserved : goal.loop-text-preserved
loop-text-preserved c = lookup_miss (λ row. (row.0.now, row.1)) (bytes_eq c.args.word.now) c.args.table.now c.loop-text.text-index _ c.loop-text-test.true c.loop-text.invariant (sym c.eq.ensures ∙ c.if-eq.false)
