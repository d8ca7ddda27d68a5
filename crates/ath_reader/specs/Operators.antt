-- The operators that are there at first. The numbers are those that the table of names begins with.
use Rattle.std.specs.Prelude.{ℕ, List, [], ◌∷◌}
use Rattle.ath_sorts.specs.declared.sorts.Sym.{Sym}
use Rattle.ath_syntax.specs.declared.place.Group.{Group}
use Rattle.ath_syntax.specs.declared.place.Group.TheVariants.{Left, Right}

abbrev operator : ℕ → ℕ → Group → Sym × (ℕ × Group)
operator word level group = (record { 0 = word }, (level, group))

-- `<==>`, `==>`, `|`, `&`, `~`, `=` and `=/=`
abbrev pub first_operators : List (Sym × (ℕ × Group))
first_operators = operator 9 100 Right ∷ operator 8 200 Right ∷ operator 6 300 Right ∷ operator 5 400 Right ∷ operator 7 500 Right ∷ operator 3 600 Left ∷ operator 4 600 Left ∷ []
