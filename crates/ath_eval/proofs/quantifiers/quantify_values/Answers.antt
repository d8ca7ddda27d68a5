use Rattle.ath_eval.proofs.KindLaws.{no_part}
use Rattle.ath_eval.proofs.QuantifierLaws.{variables_sorted}
use Rattle.ath_eval.proofs.quantifiers.quantify_values.Goals as goal

pub returns-in_default-clause-outcome : goal.returns-in_default-clause-outcome
returns-in_default-clause-outcome c = let s = c.args.w.now.store in
    rw (rw c.in-All.is at c.in_ok-vars.ensures, no_part s c.args.last c.in_default.ensures) (c.in_ok-outcome.ensures s)

pub quantify_part-made-requires-clause-sorts : goal.quantify_part-made-requires-clause-sorts
quantify_part-made-requires-clause-sorts c = let w = c.args.w.now in
    rw c.as_slice.ensures.value (variables_sorted w.sig w.store w.sorted c.args.front.now c.in-All.vars.items c.requires.front (rw c.in-All.is at c.in_ok-vars.ensures))
