-- Theories: what is declared.
use Rattle.std.specs.Prelude.{List, []}
use Rattle.ath_sorts.specs.Signature.{Signature}

-- a datatype; none can be declared yet
abbrev pub Datatype : Type 0
Datatype = ⊥

pub record Theory : Type 0 where
  pub signature : Signature
  pub datatypes : List Datatype

-- a signature without datatypes
abbrev pub theory_of : Signature → Theory
theory_of sig = record { signature = sig; datatypes = [] }
