-- What a shelf of files keeps of its failures, and what a fetch makes of that.
use Rattle.std.specs.Prelude.{ℕ, List, Option, Some, None, Result, Ok, Err}
use Rattle.ath_io.specs.declared.shelf.FetchError.{FetchError}
use Rattle.ath_io.specs.declared.shelf.FetchError.TheVariants.{Failed, Memory}
use Rattle.ath_io.specs.Faults.{one_more}

-- the name of the last file that couldn't be read, and how often one couldn't
pub record Failures : Type 0 where
  pub failed : Option (List ℕ)
  pub count : ℕ

abbrev pub no_failures : Failures
no_failures = record { failed = None; count = 0 }

-- want of memory is no failure
abbrev pub failures_after : {T : Type 0} → Failures → List ℕ → Result T FetchError → Failures
failures_after old name (Ok _) = old
failures_after old name (Err Failed) = record { failed = Some name; count = one_more old.count }
failures_after old name (Err Memory) = old
