-- Valid signatures.
use Rattle.std.specs.Prelude.{◌≡◌, Bool, true, false, ◌==◌, List, [], ◌∷◌, ◌++◌, map, None}
use Rattle.std.specs.List.{list_any, AllByRecursion}
use Rattle.ath_sorts.specs.declared.signature.Symbol.{Symbol}
use Rattle.ath_sorts.specs.declared.sorts.SVar.TheVariants.{Written, Made}
use Rattle.ath_sorts.specs.declared.sorts.Sort.{Sort}
use Rattle.ath_sorts.specs.declared.sorts.Sort.TheOpen as one
use Rattle.ath_sorts.specs.declared.sorts.Sort.TheFolds.{fold-Sort}
use Rattle.ath_sorts.specs.declared.sorts.Sym.{Sym}
use Rattle.ath_sorts.specs.Declaring.{use_faults, loose_faults}
use Rattle.ath_sorts.specs.Signature.{Signature}

abbrev pub is_name_of : Sym → List Sym → Bool
is_name_of n names = list_any (λ m. m.0 == n.0) names

-- no name stands twice
abbrev pub AreDistinct : List Sym → Type 0
AreDistinct [] = Unit {0}
AreDistinct (n ∷ names) = (is_name_of n names ≡ false) × AreDistinct names

abbrev pub made_step : one.Sort-F Bool → Bool
made_step (one.Var (Written p)) = false
made_step (one.Var (Made n)) = true
made_step (one.Con c made) = list_any (λ b. b) made

-- whether a variable that was made occurs in the sort
abbrev pub has_made : Sort → Bool
has_made = fold-Sort Bool made_step

pub record IsValidSymbol (sig : Signature) (s : Symbol) : Type 0 where
  pub params_differ : AreDistinct s.params
  -- its sorts are over its parameters and the constructors that are there, with their arities
  pub sorts_there : use_faults sig s.params (s.args ++ s.result ∷ []) ≡ None
  pub none_made : list_any has_made (s.args ++ s.result ∷ []) ≡ false
  pub params_occur : loose_faults (s.args ++ s.result ∷ []) s.params ≡ None

pub record IsValid (sig : Signature) : Type 0 where
  pub sorts_differ : AreDistinct (map (λ e. e.0) sig.sorts)
  pub symbols_differ : AreDistinct (map (λ s. s.name) sig.symbols)
  pub symbols : AllByRecursion (IsValidSymbol sig) sig.symbols
