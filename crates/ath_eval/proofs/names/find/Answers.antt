use Rattle.ath_eval.specs.World.{context_of}
use Rattle.ath_env.specs.LookUp.{looked_up}
use Rattle.ath_env.proofs.ValueLaws.{found-some}
use Rattle.ath_eval.proofs.NameLaws.{named, unnamed}
use Rattle.ath_eval.proofs.names.find.Goals as goal

pub name_value-requires-clause-value : goal.name_value-requires-clause-value
name_value-requires-clause-value c = let w = c.args.w.now in
    (found-some w.store c.look_up.result (looked_up w.names w.sig c.args.name) c.in-Some.value (c.look_up.ensures w.store) c.in-Some.is).2.0

pub returns-in_ok-outcome-in-Some-clause-outcome : goal.returns-in_ok-outcome-in-Some-clause-outcome
returns-in_ok-outcome-in-Some-clause-outcome c = let a = c.args in let w = a.w.now in let o = c.in_ok-outcome-in-Some in
    named w.store c.name_value.new.w.store o.outcome w.names w.sig a.name a.at c.look_up.result (c.look_up.ensures w.store) (context_of w) c.in-Some.value w.fresh c.name_value.new.w.fresh c.in-Some.is o.ensures.outcome

pub returns-in_ok-outcome-in-None-clause-outcome : goal.returns-in_ok-outcome-in-None-clause-outcome
returns-in_ok-outcome-in-None-clause-outcome c = let a = c.args in let w = a.w.now in let o = c.in_ok-outcome-in-None in
    unnamed w.store w.store o.outcome w.names w.sig a.name a.at c.look_up.result (c.look_up.ensures w.store) (context_of w) w.fresh c.in-None.is (o.ensures w.store w.fresh)
