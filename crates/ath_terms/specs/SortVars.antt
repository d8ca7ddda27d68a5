-- Which sort variables may be in a tree, and the substitutions that leave those.
use Rattle.std.specs.Prelude.{◌≡◌, ℕ, max, Bool, true, false, ◌||◌, nat_le, Option, Some, None}
use Rattle.ath_sorts.specs.declared.sorts.SVar.{SVar}
use Rattle.ath_sorts.specs.declared.sorts.SVar.TheVariants.{Written, Made}
use Rattle.ath_sorts.specs.declared.sorts.Sort.{Sort, Var}
use Rattle.ath_terms.specs.declared.sort_vars.SortVars.{SortVars}

abbrev pub greater : Option ℕ → Option ℕ → Option ℕ
greater None b = b
greater (Some m) None = Some m
greater (Some m) (Some n) = Some (max m n)

abbrev pub both : SortVars → SortVars → SortVars
both r q = record { most_made = greater r.most_made q.most_made; may_be_written = r.may_be_written || q.may_be_written }

abbrev pub only : SVar → SortVars
only (Written a) = record { most_made = None; may_be_written = true }
only (Made n) = record { most_made = Some n; may_be_written = false }

abbrev pub is_up_to : Option ℕ → ℕ → Bool
is_up_to None n = false
is_up_to (Some m) n = nat_le n m

abbrev pub may_have : SortVars → SVar → Bool
may_have r (Written a) = r.may_be_written
may_have r (Made n) = is_up_to r.most_made n

-- each of them stays
abbrev pub Fixes : SortVars → (SVar → Sort) → Type 0
Fixes r f = (v : SVar) → may_have r v ≡ true → f v ≡ Var v
