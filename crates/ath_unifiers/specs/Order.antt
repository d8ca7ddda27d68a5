-- The order of the variables of pairs of sorts: which of two stands before the other.
use Rattle.std.specs.Prelude.{Bool, true, false, nat_lt, List, [], ◌∷◌, ◌++◌, if◌then◌else◌}
use Rattle.ath_sorts.specs.declared.sorts.SVar.{SVar}
use Rattle.ath_sorts.specs.declared.sorts.SVar.TheVariants.{Written, Made}
use Rattle.ath_sorts.specs.declared.sorts.Sort.{Sort}
use Rattle.ath_sorts.specs.declared.sorts.Sort.TheOpen as one
use Rattle.ath_sorts.specs.declared.sorts.Sort.TheFolds.{fold-Sort}
use Rattle.ath_sorts.specs.Sorts.{same_svar}
use Rattle.ath_sorts.specs.Equality.{same_sort}

abbrev pub concatenated : List (List SVar) → List SVar
concatenated [] = []
concatenated (vs ∷ vss) = vs ++ concatenated vss

abbrev pub vars_step : one.Sort-F (List SVar) → List SVar
vars_step (one.Var v) = v ∷ []
vars_step (one.Con c vss) = concatenated vss

-- the variables of a sort from the left, as often as they occur
abbrev pub vars_of : Sort → List SVar
vars_of = fold-Sort (List SVar) vars_step

-- the variables of the pairs as they are read: a left side before its right side, and pairs of equal sides left out
abbrev pub vars_read : List (Sort × Sort) → List SVar
vars_read [] = []
vars_read (p ∷ ps) = (if same_sort p.0 p.1 then [] else (vars_of p.0 ++ vars_of p.1)) ++ vars_read ps

-- whether a is read, and no b before it
abbrev pub comes_first : List SVar → SVar → SVar → Bool
comes_first [] a b = false
comes_first (v ∷ vs) a b = if same_svar v b then false else (if same_svar v a then true else comes_first vs a b)

-- whether a variable stands before another: written ones before those made, of two written ones that which is read first, of two made ones that with the lesser number
abbrev pub precedes : List SVar → SVar → SVar → Bool
precedes read (Written a) (Written b) = comes_first read (Written a) (Written b)
precedes read (Written a) (Made n) = true
precedes read (Made m) (Written b) = false
precedes read (Made m) (Made n) = nat_lt m n
