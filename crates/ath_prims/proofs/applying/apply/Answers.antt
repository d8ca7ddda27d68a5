use Rattle.std.proofs.Common.{List, Option, sym, ◌∙◌, ap, subst}
use Rattle.ath_prims.specs.Schemata.{Row, row_of}
use Rattle.ath_prims.specs.Applied.{by_row}
use Rattle.ath_prims.specs.Stands.{arguments_at}
use Rattle.ath_prims.proofs.Rows.{answer-follows}
use Rattle.ath_prims.proofs.applying.apply.Goals as goal

pub returns-clause-follows : goal.returns-clause-follows
returns-clause-follows c = let a = c.args in let xs = arguments_at a.store.now a.args.now in
    answer-follows a.method xs c.by_row.new.store c.in_ok-sent.sent (by_row (row_of c.row.result) xs) (ap (λ (r : Row). by_row r xs) c.row.ensures) c.in_ok-sent.ensures.answer
