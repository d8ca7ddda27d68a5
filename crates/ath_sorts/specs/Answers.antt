-- When an answer is that of a test of a declaration.
use Rattle.std.specs.Prelude.{◌≡◌, Option, Some, None, option_map, Result, Ok, Err}
use Rattle.ath_sorts.specs.declared.signature.Flaw.{Flaw}
use Rattle.ath_sorts.specs.declared.signature.SigError.{SigError}
use Rattle.ath_sorts.specs.declared.signature.SigError.TheVariants.{Memory}
use Rattle.ath_sorts.specs.Declaring.{error_of}

-- the answer tells of this flaw, or is Ok where there is none; or memory is wanted
abbrev pub MatchFault : Option Flaw → Result (Unit {0}) SigError → Type 0
MatchFault fault (Ok u) = fault ≡ None
MatchFault fault (Err Memory) = Unit {0}
MatchFault fault (Err e) = option_map error_of fault ≡ Some e

-- the answer is this flaw, or Ok where there is none
abbrev pub IsFlaw : Option Flaw → Result (Unit {0}) Flaw → Type 0
IsFlaw fault (Ok u) = fault ≡ None
IsFlaw fault (Err f) = fault ≡ Some f
