use Rattle.std.proofs.Common.{◌≡◌, take}
use Rattle.ath_terms.specs.Firsts.{HasFirsts}
use Rattle.ath_terms.specs.Found.{name_key, same_name_key}
use Rattle.ath_construction.proofs.PairLaws.{pairs_to}
use Rattle.ath_construction.proofs.pairs.add_variable_pairs.Given as goal

abbrev pub invariant-loop-i : goal.invariant-loop-i
invariant-loop-i l = record {
  firsts : HasFirsts same_name_key name_key (take l.i l.found) l.firsts.entries;
  pairs : l.pairs.items ≡ pairs_to l.fn.pairs.items l.found l.i;
}
