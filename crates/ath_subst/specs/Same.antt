-- The answer where nothing changes: the id that was given, and a store to which nothing was added.
use Rattle.std.specs.Prelude.{◌≡◌, Result, IfOk}
use Rattle.ath_terms.specs.Trees.{Trees}

abbrev pub IsSame : {I E : Type 0} → Trees → Trees → I → Result I E → Type 0
IsSame old new i result = IfOk result (λ r. (r ≡ i) × (new ≡ old))
