-- What is told: an event, with what its line is written from.
use Rattle.std.specs.Prelude.{ℕ, List}
use Rattle.ath_sorts.specs.Signature.{Signature}
use Rattle.ath_print.specs.Events.{Event}
use Rattle.ath_print.specs.Lines.{line_of}

-- an event, and the table of names, the signature and the names of files when it is told
pub record Said : Type 0 where
  pub event : Event
  pub names : List (List ℕ)
  pub signature : Signature
  pub files : List (List ℕ)

abbrev pub line_said : Said → List ℕ
line_said s = line_of s.names s.signature s.files s.event
