use Rattle.std.proofs.Common.{take}
use Rattle.ath_terms.specs.Firsts.{HasFirsts}
use Rattle.ath_terms.specs.Found.{name_key, same_name_key}
use Rattle.ath_terms.specs.Marks.{AreApart}
use Rattle.ath_terms.proofs.apart.are_apart.Given as goal

abbrev pub invariant-loop-i : goal.invariant-loop-i
invariant-loop-i l = record {
  apart : AreApart (take l.i l.found);
  firsts : HasFirsts same_name_key name_key (take l.i l.found) l.firsts.entries;
}
