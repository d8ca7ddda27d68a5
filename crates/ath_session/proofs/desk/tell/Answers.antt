use Rattle.std.proofs.Common.{map, sym, ◌∙◌, ap, string_bytes}
use Rattle.ath_print.specs.Stands.{event_of}
use Rattle.ath_session.specs.Steps.{configuration_of}
use Rattle.ath_session.proofs.DeskLaws.{line_failed, line_told, error_before, error_now, line_there, put_failed, put_whole}
use Rattle.ath_session.proofs.desk.tell.Goals.{then-desk, else-desk}
use Rattle.ath_session.proofs.desk.tell.Goals as goal

pub returns-then-is_err-clause-did : goal.returns-then-is_err-clause-did
returns-then-is_err-clause-did g c = λ told.
    let event = event_of c.args.desk.now.session.world.store c.args.event.now in
    let is = c.as_slice-2.ensures.value ∙ line_there c.args.desk.now.session.world c.world-world.result.now _ _ c.args.event.now _ c.world-world.ensures (ap (λ fs. map string_bytes fs) c.as_slice.ensures.value) c.in-Ok.ensures in
    let failed = put_failed _ _ _ c.put.result c.put.ensures.taken (sym c.is_err.ensures.value ∙ c.if-is_err.true) in
    line_failed (configuration_of c.args.desk.now) event told _ _ c.as_slice-2.result.now is c.args.desk.now.errors failed.0 failed.1

pub returns-clause-did : goal.returns-clause-did
returns-clause-did g c = λ told.
    let desk = configuration_of c.args.desk.now in
    let store = c.args.desk.now.session.world.store in
    let event = event_of store c.args.event.now in
    let is = c.as_slice-2.ensures.value ∙ line_there c.args.desk.now.session.world c.world-world.result.now _ _ c.args.event.now _ c.world-world.ensures (ap (λ fs. map string_bytes fs) c.as_slice.ensures.value) c.in-Ok.ensures in
    let put = put_whole _ _ _ c.put.result c.put.ensures.taken (sym c.is_err.ensures.value ∙ c.if-is_err.false) in
    let before = g.K.Sink.told c.args.sink.now in
    let after = g.K.Sink.told c.put.new.self in
    let errors = c.args.desk.now.errors in
    line_told desk event told before after c.as_slice-2.result.now is errors c.if-desk.desk
    (elim c.if-desk.branch [
      | then-desk w ↦ error_before desk event told before after c.as_slice-2.result.now is errors c.if-desk.desk w.if-desk.true (w.desk-is ∙ w.if-desk.true)
      | else-desk w ↦ error_now desk event told before after c.as_slice-2.result.now is errors c.if-desk.desk w.if-desk.false (w.desk-is ∙ w.is_error-desk.ensures store)
    ])
    put
