-- The numbers that the program ends with.
use Rattle.std.specs.Prelude.{ℕ}
use Rattle.ath_session.specs.declared.status.Status.{Status}
use Rattle.ath_session.specs.declared.status.Status.TheVariants.{Clean, Errors, Usage, Fuel, SourceFault, SinkFault, Memory}

-- after a run
abbrev pub number_of : Status → ℕ
number_of Clean = 0
number_of Errors = 1
number_of Usage = 2
number_of Fuel = 3
number_of SourceFault = 4
number_of SinkFault = 5
number_of Memory = 6
