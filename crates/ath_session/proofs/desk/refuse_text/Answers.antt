use Rattle.std.proofs.Common.{[], ◌∷◌, subst}
use Rattle.ath_print.specs.declared.fault.FaultKind.{FaultKind}
use Rattle.ath_print.specs.Events.{refused}
use Rattle.ath_eval.specs.Outcomes.{refusal}
use Rattle.ath_session.specs.Run.{goes, said}
use Rattle.ath_session.specs.Steps.{configuration_of, Did}
use Rattle.ath_session.proofs.desk.refuse_text.Goals as goal

pub returns-clause-did : goal.returns-clause-did
returns-clause-did g c = λ other told.
    subst (λ (k : FaultKind). Did (goes (said (configuration_of c.args.desk.now) (refused c.args.error.pos (refusal k [])) ∷ []) (configuration_of c.args.desk.now)) c.tell_fault.result c.args.desk.now.errors c.tell_fault.new.desk.errors (configuration_of c.tell_fault.new.desk) (record { shelf = told; sink = g.K.Sink.told c.args.sink.now }) (record { shelf = told; sink = g.K.Sink.told c.tell_fault.new.sink }))
    c.fault_kind.ensures
    (c.tell_fault.ensures.did told)
