use Rattle.std.proofs.Common.{◌≡◌, drop}
use Rattle.std.specs.List.{list_all}
use Rattle.ath_sorts.specs.Sorts.{is_small}
use Rattle.ath_terms.proofs.marks.are_small.Given as goal

abbrev pub invariant-loop-sort : goal.invariant-loop-sort
invariant-loop-sort l = list_all is_small l.sorts ≡ list_all is_small (drop l.sort-index l.sorts)
