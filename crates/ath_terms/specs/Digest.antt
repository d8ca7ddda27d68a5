-- Digests of sorts: those of two sorts that are one are one. Nothing rests on those of others being different but speed.
use Rattle.std.specs.Prelude.{ℕ, ◌+◌, ◌*◌, ◌%◌, List, [], ◌∷◌}
use Rattle.ath_sorts.specs.declared.sorts.SVar.{SVar}
use Rattle.ath_sorts.specs.declared.sorts.SVar.TheVariants.{Written, Made}
use Rattle.ath_sorts.specs.declared.sorts.Sort.{Sort}
use Rattle.ath_sorts.specs.declared.sorts.Sort.TheOpen as one
use Rattle.ath_sorts.specs.declared.sorts.Sort.TheFolds.{fold-Sort}
use Rattle.ath_terms.specs.declared.digest.TheConstants.{DIGEST_RANGE, DIGEST_FACTOR}

abbrev pub svar_digest : SVar → ℕ
svar_digest (Written name) = name.0 % DIGEST_RANGE * 2 + 1
svar_digest (Made number) = number % DIGEST_RANGE * 2

abbrev pub mixed : ℕ → List ℕ → ℕ
mixed m [] = m
mixed m (d ∷ ds) = mixed ((m * DIGEST_FACTOR + d) % DIGEST_RANGE) ds

abbrev pub digest_step : one.Sort-F ℕ → ℕ
digest_step (one.Var v) = svar_digest v
digest_step (one.Con c args) = mixed (c.0 % DIGEST_RANGE) args

abbrev pub digest : Sort → ℕ
digest = fold-Sort ℕ digest_step
