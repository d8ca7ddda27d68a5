use Rattle.std.proofs.Common.{map, sym, ◌∙◌}
use Rattle.ath_eval.specs.Applying.{all_are, wrong_at}
use Rattle.ath_eval.specs.Arguments.{piece_tree}
use Rattle.ath_eval.proofs.ConnectiveLaws.{connective_is}
use Rattle.ath_eval.proofs.KindLaws.{parts_in, kinds_parts, kinds_no_parts}
use Rattle.ath_eval.proofs.connectives.apply_connective.Goals as goal

pub connect-made-requires-clause-parts : goal.connect-made-requires-clause-parts
connect-made-requires-clause-parts c = let a = c.args in rw c.as_slice.ensures.value (parts_in a.w.now.store a.args.now c.in-All.found.items (rw c.in-All.is at c.in_ok-found.ensures) c.requires.arguments)

pub returns-in_ok-outcome-in-All-clause-outcome : goal.returns-in_ok-outcome-in-All-clause-outcome
returns-in_ok-outcome-in-All-clause-outcome c = let a = c.args in let s = a.w.now.store in let o = c.in_ok-outcome-in-All in
    connective_is a.w.now.sig a.conn s c.connect-made.new.w.store a.args.now a.at o.outcome (sym c.takes.ensures ∙ c.if-not-takes.false) (all_are (map (piece_tree s) c.in-All.found.items)) (kinds_parts s a.args.now c.in-All.found.items (rw c.in-All.is at c.in_ok-found.ensures)) (o.ensures c.connect-made.new.w.store _ (rw c.as_slice.ensures.value at c.connect-made.ensures.built))

pub returns-in_ok-outcome-in-Wrong-clause-outcome : goal.returns-in_ok-outcome-in-Wrong-clause-outcome
returns-in_ok-outcome-in-Wrong-clause-outcome c = let a = c.args in let s = a.w.now.store in let o = c.in_ok-outcome-in-Wrong in
    connective_is a.w.now.sig a.conn s s a.args.now a.at o.outcome (sym c.takes.ensures ∙ c.if-not-takes.false) (wrong_at c.in-Wrong.i) (kinds_no_parts s a.args.now c.in-Wrong.i (rw c.in-Wrong.is at c.in_ok-found.ensures)) (o.ensures s)
