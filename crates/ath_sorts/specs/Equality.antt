-- When two sorts are one.
use Rattle.std.specs.Prelude.{Bool, true, false, ◌&&◌, ◌==◌, List, [], ◌∷◌}
use Rattle.ath_sorts.specs.declared.sorts.Sort.{Sort, out-Sort}
use Rattle.ath_sorts.specs.declared.sorts.Sort.TheOpen as one
use Rattle.ath_sorts.specs.declared.sorts.Sort.TheFolds.{fold-Sort}
use Rattle.ath_sorts.specs.Sorts.{same_svar}

-- whether each test passes at the sort in its place
abbrev pub all_pass : List (Sort → Bool) → List Sort → Bool
all_pass [] [] = true
all_pass [] (s ∷ ss) = false
all_pass (t ∷ ts) [] = false
all_pass (t ∷ ts) (s ∷ ss) = t s && all_pass ts ss

abbrev pub same_step : one.Sort-F (Sort → Bool) → one.Sort-F Sort → Bool
same_step (one.Var v) (one.Var w) = same_svar v w
same_step (one.Var v) (one.Con d args) = false
same_step (one.Con c tests) (one.Var w) = false
same_step (one.Con c tests) (one.Con d args) = c.0 == d.0 && all_pass tests args

-- whether two sorts are one
abbrev pub same_sort : Sort → Sort → Bool
same_sort = fold-Sort (Sort → Bool) (λ x t. same_step x (out-Sort t))
