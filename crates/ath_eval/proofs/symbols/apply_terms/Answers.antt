use Rattle.std.proofs.Common.{length}
use Rattle.ath_sorts.specs.Signature.{symbol_of}
use Rattle.ath_eval.proofs.KindLaws.{terms_in, kinds_no_terms}
use Rattle.ath_eval.proofs.SymbolLaws.{as_wanted, declared_made, declared_wrong}
use Rattle.ath_eval.proofs.symbols.apply_terms.Goals as goal

pub app-made-requires-clause-inside : goal.app-made-requires-clause-inside
app-made-requires-clause-inside c = let a = c.args in terms_in a.w.now.store a.args.now c.in-All.ids.items (rw c.in-All.is at c.in_ok-ids.ensures) c.requires.arguments

pub returns-in_ok-outcome-in-All-clause-outcome : goal.returns-in_ok-outcome-in-All-clause-outcome
returns-in_ok-outcome-in-All-clause-outcome c = λ d is. let a = c.args in let w = a.w.now in let q = c.requires.declared in
    declared_made w.sig w.store a.args.now a.at c.in_ok-outcome-in-All.outcome d (as_wanted (symbol_of w.sig a.f) q.0 d (length a.args.now) q.1 q.2 is) c.in-All.ids.items c.app-made.new.store w.fresh c.app-made.new.fresh c.app-made.result (rw c.in-All.is at c.in_ok-ids.ensures) (c.app-made.ensures.counters d is) (c.app-made.ensures.built w.sorted d is) (c.in_ok-outcome-in-All.ensures w.sig c.app-made.new.store)

pub returns-in_ok-outcome-in-Wrong-clause-outcome : goal.returns-in_ok-outcome-in-Wrong-clause-outcome
returns-in_ok-outcome-in-Wrong-clause-outcome c = λ d is. let a = c.args in let w = a.w.now in let q = c.requires.declared in
    declared_wrong w.sig w.store a.args.now a.at c.in_ok-outcome-in-Wrong.outcome d (as_wanted (symbol_of w.sig a.f) q.0 d (length a.args.now) q.1 q.2 is) c.in-Wrong.i w.store w.fresh (kinds_no_terms w.store a.args.now c.in-Wrong.i (rw c.in-Wrong.is at c.in_ok-ids.ensures)) (c.in_ok-outcome-in-Wrong.ensures w.store)
