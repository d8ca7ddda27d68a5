-- Sorts as trees: what a substitution makes of one, its nodes and depth with their limits, and the variables in it.
use Rattle.std.specs.Prelude.{ℕ, ◌+◌, max, Bool, false, ◌==◌, ◌&&◌, nat_le, List, [], ◌∷◌, ◌++◌, map, sum, if◌then◌else◌}
use Rattle.std.specs.List.{list_any}
use Rattle.ath_sorts.specs.declared.limits.TheConstants.{MOST_NODES, MOST_DEPTH}
use Rattle.ath_sorts.specs.declared.sorts.SVar.{SVar}
use Rattle.ath_sorts.specs.declared.sorts.SVar.TheVariants.{Written, Made}
use Rattle.ath_sorts.specs.declared.sorts.Sort.{Sort, Var, Con}
use Rattle.ath_sorts.specs.declared.sorts.Sort.TheOpen as one
use Rattle.ath_sorts.specs.declared.sorts.Sort.TheFolds.{fold-Sort}

abbrev pub same_svar : SVar → SVar → Bool
same_svar (Written a) (Written b) = a.0 == b.0
same_svar (Made a) (Made b) = a == b
same_svar (Written a) (Made b) = false
same_svar (Made a) (Written b) = false

-- a finite map from sort variables to sorts, as a list: the first entry of a variable counts, and a variable without one stays
abbrev pub image : List (SVar × Sort) → SVar → Sort
image [] v = Var v
image (e ∷ s) v = if same_svar e.0 v then e.1 else image s v

abbrev pub apply_step : (SVar → Sort) → one.Sort-F Sort → Sort
apply_step f (one.Var v) = f v
apply_step f (one.Con c args) = Con c args

-- the sort with each variable replaced by its image
abbrev pub apply_to : (SVar → Sort) → Sort → Sort
apply_to f = fold-Sort Sort (apply_step f)

-- two substitutions in turn, t first
abbrev pub after : List (SVar × Sort) → List (SVar × Sort) → List (SVar × Sort)
after s t = map (λ e. (e.0, apply_to (image s) e.1)) t ++ s

abbrev pub size_step : one.Sort-F ℕ → ℕ
size_step (one.Var v) = 1
size_step (one.Con c args) = sum args + 1

-- its nodes: a variable and a sort without arguments count one
abbrev pub size_of : Sort → ℕ
size_of = fold-Sort ℕ size_step

abbrev pub greatest : List ℕ → ℕ
greatest [] = 0
greatest (n ∷ ns) = max n (greatest ns)

abbrev pub depth_step : one.Sort-F ℕ → ℕ
depth_step (one.Var v) = 1
depth_step (one.Con c args) = greatest args + 1

abbrev pub depth_of : Sort → ℕ
depth_of = fold-Sort ℕ depth_step

-- at most so many nodes, and at most so deep
abbrev pub is_small : Sort → Bool
is_small s = nat_le (size_of s) MOST_NODES && nat_le (depth_of s) MOST_DEPTH

abbrev pub occurs_step : SVar → one.Sort-F Bool → Bool
occurs_step v (one.Var w) = same_svar v w
occurs_step v (one.Con c args) = list_any (λ b. b) args

abbrev pub occurs : SVar → Sort → Bool
occurs v = fold-Sort Bool (occurs_step v)
