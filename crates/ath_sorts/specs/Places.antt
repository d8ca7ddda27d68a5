-- Where the variables of a substitution have their entries.
use Rattle.std.specs.Prelude.{◌≡◌, ℕ, ◌<◌, Bool, false, List, slice_get, Option, Some, None, if◌then◌else◌}
use Rattle.std.specs.Map.{lookup}
use Rattle.ath_sorts.specs.declared.sorts.SVar.{SVar}
use Rattle.ath_sorts.specs.declared.sorts.SVar.TheVariants.{Written, Made}
use Rattle.ath_sorts.specs.declared.sorts.Sym.{Sym}
use Rattle.ath_sorts.specs.declared.sorts.Sort.{Sort, Var}
use Rattle.ath_sorts.specs.Sorts.{same_svar, image}
use Rattle.ath_sorts.specs.Substitutions.{entry_of}

-- the sort of an entry, if it is the variable's
abbrev pub sort_of_entry : Option (SVar × Sort) → SVar → Option Sort
sort_of_entry None v = None
sort_of_entry (Some e) v = if same_svar e.0 v then Some e.1 else None

abbrev pub sort_there : List (SVar × Sort) → Option ℕ → SVar → Option Sort
sort_there entries None v = None
sort_there entries (Some i) v = sort_of_entry (slice_get entries i) v

-- the table has the place of each variable's first entry; a place past the end, or of another variable, is none
abbrev pub HasEntries : List (SVar × Sort) → List (SVar × ℕ) → Type 0
HasEntries entries places = (v : SVar) → sort_there entries (lookup (same_svar v) places) v ≡ entry_of entries v

-- which variables are known to stay: made ones below a number, and written ones, unless they may move
pub record LeavesOthers (entries : List (SVar × Sort)) (lowest : ℕ) (may_move : Bool) : Type 0 where
  pub made : (n : ℕ) → n < lowest → image entries (Made n) ≡ Var (Made n)
  pub written : may_move ≡ false → (a : Sym) → image entries (Written a) ≡ Var (Written a)
