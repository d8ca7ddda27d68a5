-- The counters of fresh names.
use Rattle.std.specs.Prelude.{◌≡◌, ℕ, ◌<◌, ◌≤◌, Bool, true, false, ◌&&◌, ◌==◌, List}
use Rattle.std.specs.List.{list_any}
use Rattle.ath_sorts.specs.declared.sorts.Sym.{Sym}

-- whether the name with this index is taken
abbrev pub is_taken : List (Sym × ℕ) → Sym → ℕ → Bool
is_taken taken name index = list_any (λ e. e.0.0 == name.0 && e.1 == index) taken

-- the least index not below the counter with which the name isn't taken
pub record IsFreshIndex (counter : ℕ) (name : Sym) (taken : List (Sym × ℕ)) (index : ℕ) : Type 0 where
  pub not_below : counter ≤ index
  pub unused : is_taken taken name index ≡ false
  pub least : (k : ℕ) → counter ≤ k → k < index → is_taken taken name k ≡ true
