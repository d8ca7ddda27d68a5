use Rattle.std.proofs.Common.{List, ap}
use Rattle.ath_base.specs.declared.base.Node.{Node}
use Rattle.ath_base.specs.Stands.{entries_in, entries_of}
use Rattle.ath_session.proofs.NewLaws.{new_sorted}
use Rattle.ath_session.proofs.SoundLaws.{new_sound}
use Rattle.ath_session.proofs.session.Session.new.Goals as goal

pub invariant_of-result-clause-sorted : goal.invariant_of-result-clause-sorted
invariant_of-result-clause-sorted c = new_sorted c.in_ok-new.field-0 c.new-3.result c.in_ok-new.ensures c.new-3.ensures

pub returns-clause-sound : goal.returns-clause-sound
returns-clause-sound c = new_sound _ c.in_ok-new.ensures (ap (λ (ns : List Node). entries_of c.new-3.result (entries_in ns 0)) c.new-4.ensures)
