-- The steps of the tests of a declaration.
use Rattle.std.specs.Prelude.{◌≡◌, ℕ, ◌==◌, ◌||◌, Bool, true, is_ok, is_some, take, List, [], ◌∷◌, ◌++◌, Option, Some, None, Result, Ok, Err, if◌then◌else◌}
use Rattle.std.specs.List.{list_any}
use Rattle.ath_sorts.specs.declared.signature.Flaw.{Flaw}
use Rattle.ath_sorts.specs.declared.sorts.Sort.{Sort}
use Rattle.ath_sorts.specs.declared.sorts.Sort.TheOpen as one
use Rattle.ath_sorts.specs.declared.sorts.Sort.TheFolds.{fold-Sort}
use Rattle.ath_sorts.specs.declared.sorts.Sym.{Sym}
use Rattle.ath_sorts.specs.Declaring.{constructor_fault}
use Rattle.ath_sorts.specs.Signature.{Signature, arity_of, symbol_of}
use Rattle.ath_declarations.specs.declared.declaring.DeclareError.{DeclareError}
use Rattle.ath_declarations.specs.declared.declaring.DeclareError.TheVariants as error
use Rattle.ath_declarations.specs.Declarations.{with_symbols}

abbrev pub has_name : List Sym → Sym → Bool
has_name names n = list_any (λ m. n.0 == m.0) names

-- the names that are there, and then each of the others that isn't there yet
abbrev pub noting : List Sym → List Sym → List Sym
noting names [] = names
noting names (n ∷ ns) = noting (if has_name names n then names else names ++ n ∷ []) ns

abbrev pub place_step : Signature → one.Sort-F (Option Flaw) → Option Flaw
place_step sig (one.Var v) = None
place_step sig (one.Con c faults) = constructor_fault (arity_of sig c) c faults

-- the first bad constructor of a sort
abbrev pub place_fault : Signature → Sort → Option Flaw
place_fault sig = fold-Sort (Option Flaw) (place_step sig)

-- the first name that is a symbol's, or that was seen
abbrev pub first_taken : Signature → List Sym → List Sym → Option Sym
first_taken sig seen [] = None
first_taken sig seen (n ∷ ns) = if is_some (symbol_of sig n) || has_name seen n then Some n else first_taken sig (seen ++ n ∷ []) ns

-- the answer of a test: Ok where the outcome is no refusal
abbrev pub MatchTest : Result Signature Flaw → Result (Unit {0}) DeclareError → Type 0
MatchTest outcome (Ok u) = is_ok outcome ≡ true
MatchTest outcome (Err error.Memory) = Unit {0}
MatchTest outcome (Err (error.Flawed f)) = outcome ≡ Err f

-- the new signature has the first few of the names, perhaps none
pub record HasSome (old new : Signature) (names params : List Sym) (args : List Sort) (result : Sort) : Type 0 where
  pub count : ℕ
  pub after : with_symbols old (take count names) params args result ≡ Ok new
