use Rattle.std.proofs.Common.{codes}
use Rattle.ath_print.specs.Printers.{word, line_in}
use Rattle.ath_print.specs.Prefix.{var_text, sort_printed}
use Rattle.ath_print.proofs.PieceLaws.{three_done}
use Rattle.ath_print.proofs.terms.put_with_sort.Goals as goal

pub returns : goal.returns
returns c = three_done (word (var_text c.args.names.now c.args.v.now)) (word (codes ":")) (sort_printed c.args.names.now c.args.v.now.sort) (line_in c.args.draft.now) _ _ _ c.in_ok-put_var.ensures c.in_ok-put.ensures c.in_ok-put_sort.ensures
