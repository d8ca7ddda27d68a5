-- The empty set is a table.
use Rattle.std.proofs.Common.{sym, subst, map, string_bytes}
use Rattle.ath_names.specs.Names.{IsTable}
use Rattle.ath_names.proofs.NamesLaws.{IsTable-nil}
use Rattle.ath_names.proofs.Names.new.Goals as goal

pub invariant_of-names : goal.invariant_of-names
invariant_of-names c = subst (λ keys. IsTable (map string_bytes keys)) (sym c.new.ensures.empty) IsTable-nil
