-- When an answer is that of an outcome.
use Rattle.std.specs.Prelude.{◌≡◌, ℕ, List, take, Option, Result, Ok, Err}
use Rattle.ath_sorts.specs.declared.signature.Flaw.{Flaw}
use Rattle.ath_sorts.specs.declared.signature.SigError.{SigError}
use Rattle.ath_sorts.specs.declared.signature.SigError.TheVariants.{Memory}
use Rattle.ath_sorts.specs.declared.sorts.Sym.{Sym}
use Rattle.ath_sorts.specs.Signature.{Signature}
use Rattle.ath_syntax.specs.declared.node.SortText.{SortText}
use Rattle.ath_declarations.specs.declared.declaring.DeclareError.{DeclareError}
use Rattle.ath_declarations.specs.declared.declaring.DeclareError.TheVariants as error
use Rattle.ath_declarations.specs.Declarations.{declared}

-- the answer is the outcome; or memory is wanted
abbrev pub MatchOutcome : {A : Type 0} → Result A SigError → Result A SigError → Type 0
MatchOutcome outcome (Ok x) = outcome ≡ Ok x
MatchOutcome outcome (Err Memory) = Unit {0}
MatchOutcome outcome (Err e) = outcome ≡ Err e

-- a signature was changed as the outcome says: by a refusal not at all; or memory is wanted
abbrev pub MatchChange : Result Signature Flaw → Signature → Signature → Result (Unit {0}) DeclareError → Type 0
MatchChange outcome old new (Ok u) = outcome ≡ Ok new
MatchChange outcome old new (Err error.Memory) = Unit {0}
MatchChange outcome old new (Err (error.Flawed f)) = (outcome ≡ Err f) × (new ≡ old)

-- the new signature is that after the same declaration of the first few of the names, perhaps of none
pub record IsBegun (old new : Signature) (names : List Sym) (list : Option (List Sym)) (args : List SortText) (result : SortText) : Type 0 where
  pub count : ℕ
  pub after : declared old (take count names) list args result ≡ Ok new
