-- The first name that is taken.
use Rattle.std.proofs.Common.{◌≡◌, ℕ, List, [], take, drop}
use Rattle.ath_sorts.specs.declared.sorts.Sym.{Sym}
use Rattle.ath_sorts.specs.Signature.{Signature}
use Rattle.ath_declarations.specs.Steps.{first_taken}

module _ (sig : Signature) (names : List Sym) where
  -- no name before this place is taken, and these were seen
  pub record FreeTo (k : ℕ) (keys : List Sym) : Type 0 where
    pub seen : keys ≡ take k names
    pub same : first_taken sig [] names ≡ first_taken sig keys (drop k names)
