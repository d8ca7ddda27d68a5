-- When a declaration is refused, and what it adds.
use Rattle.std.specs.Prelude.{ℕ, Bool, ◌||◌, ◌==◌, nat_lt, List, [], ◌∷◌, ◌++◌, length, map, Option, Some, None, is_some, if◌then◌else◌}
use Rattle.std.specs.List.{list_any, list_all}
use Rattle.ath_sorts.specs.declared.limits.TheConstants.{MOST_WIDTH}
use Rattle.ath_sorts.specs.declared.signature.Flaw.{Flaw}
use Rattle.ath_sorts.specs.declared.signature.Flaw.TheVariants.{Redeclared, TooWide, UnknownVariable, UnknownSort, Arity, SortTooLarge, LooseParam}
use Rattle.ath_sorts.specs.declared.signature.SigError.{SigError}
use Rattle.ath_sorts.specs.declared.signature.SigError.TheVariants as code
use Rattle.ath_sorts.specs.declared.signature.Symbol.{Symbol}
use Rattle.ath_sorts.specs.declared.sorts.SVar.TheVariants.{Written, Made}
use Rattle.ath_sorts.specs.declared.sorts.Sort.{Sort}
use Rattle.ath_sorts.specs.declared.sorts.Sort.TheOpen as one
use Rattle.ath_sorts.specs.declared.sorts.Sort.TheFolds.{fold-Sort}
use Rattle.ath_sorts.specs.declared.sorts.Sym.{Sym}
use Rattle.ath_sorts.specs.Sorts.{is_small, occurs}
use Rattle.ath_sorts.specs.Signature.{Signature, arity_of, symbol_of}

abbrev pub first_fault : List (Option Flaw) → Option Flaw
first_fault [] = None
first_fault (None ∷ fs) = first_fault fs
first_fault (Some e ∷ fs) = Some e

-- a refusal where the test says so
abbrev pub fault_if : Bool → Flaw → Option Flaw
fault_if b e = if b then Some e else None

-- a sort constructor has to be there, with this number of arguments
abbrev pub constructor_fault : Option ℕ → Sym → List (Option Flaw) → Option Flaw
constructor_fault None c faults = Some (UnknownSort c)
constructor_fault (Some n) c faults = if n == length faults then first_fault faults else Some (Arity c)

abbrev pub use_step : Signature → List Sym → one.Sort-F (Option Flaw) → Option Flaw
use_step sig params (one.Var (Written p)) = if list_any (λ q. q.0 == p.0) params then None else Some (UnknownVariable p)
use_step sig params (one.Var (Made n)) = None
use_step sig params (one.Con c faults) = constructor_fault (arity_of sig c) c faults

-- the first bad place of a sort, from the left: a constructor that isn't there or has another number of arguments, or a written variable that is no parameter
abbrev pub use_fault : Signature → List Sym → Sort → Option Flaw
use_fault sig params = fold-Sort (Option Flaw) (use_step sig params)

abbrev pub use_faults : Signature → List Sym → List Sort → Option Flaw
use_faults sig params sorts = first_fault (map (use_fault sig params) sorts)

abbrev pub all_small : List Sort → Bool
all_small = list_all is_small

-- a parameter that occurs in no sort
abbrev pub loose_fault : List Sort → Sym → Option Flaw
loose_fault sorts p = if list_any (occurs (Written p)) sorts then None else Some (LooseParam p)

abbrev pub loose_faults : List Sort → List Sym → Option Flaw
loose_faults sorts params = first_fault (map (loose_fault sorts) params)

abbrev pub domain_fault : Signature → Sym → ℕ → Option Flaw
domain_fault sig name arity = first_fault (
    fault_if (is_some (arity_of sig name)) (Redeclared name)
    ∷ fault_if (nat_lt MOST_WIDTH arity) (TooWide name)
    ∷ [])

abbrev pub symbol_fault : Signature → Sym → List Sym → List Sort → Sort → Option Flaw
symbol_fault sig name params args result =
    let sorts = args ++ result ∷ [] in
    first_fault (
    fault_if (is_some (symbol_of sig name)) (Redeclared name)
    ∷ fault_if (nat_lt MOST_WIDTH (length params) || nat_lt MOST_WIDTH (length args)) (TooWide name)
    ∷ use_faults sig params sorts
    ∷ (if all_small sorts then None else Some SortTooLarge)
    ∷ loose_faults sorts params
    ∷ [])

-- the error that tells of it: an unknown sort, be it a variable or a constructor
abbrev pub error_of : Flaw → SigError
error_of (Redeclared n) = code.Redeclared n
error_of (TooWide n) = code.TooWide n
error_of (UnknownVariable n) = code.UnknownSort n
error_of (UnknownSort n) = code.UnknownSort n
error_of (Arity n) = code.Arity n
error_of SortTooLarge = code.SortTooLarge
error_of (LooseParam n) = code.LooseParam n

-- the signature with one sort constructor more
abbrev pub with_sort : Signature → Sym → ℕ → Signature
with_sort sig name arity = record sig { sorts = sig.sorts ++ (name, arity) ∷ [] }

-- the signature with one symbol more
abbrev pub with_symbol : Signature → Symbol → Signature
with_symbol sig s = record sig { symbols = sig.symbols ++ s ∷ [] }
