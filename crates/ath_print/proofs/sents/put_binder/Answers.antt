use Rattle.std.proofs.Common.{ap, ◌∙◌, codes}
use Rattle.ath_print.specs.Printers.{word, after, line_in}
use Rattle.ath_print.specs.Prefix.{quant_text, with_sort}
use Rattle.ath_print.proofs.PieceLaws.{five_done}
use Rattle.ath_print.proofs.sents.put_binder.Goals as goal

pub returns : goal.returns
returns c =
    let first = line_in c.put.new.draft in
    five_done (word (codes "(")) (word (quant_text c.args.quant)) (word (codes " ")) (with_sort c.args.names.now c.args.v.now) (word (codes " ")) (line_in c.args.draft.now) first _ _ _ _ c.in_ok-put.ensures (c.in_ok-put-2.ensures ∙ ap (λ t. after (word t) first) c.quantifier.ensures) c.in_ok-put-3.ensures c.in_ok-put_with_sort.ensures c.in_ok-put-4.ensures
