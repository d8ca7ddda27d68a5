use Rattle.std.proofs.Common.{ap, is_some, length, refl, sym}
use Rattle.ath_terms.specs.Found.{name_key, same_name_key}
use Rattle.ath_terms.proofs.FirstLaws.{first_more, both_more}
use Rattle.ath_terms.proofs.KeyLaws.{name_key-true, name_key-turned, name-filed}
use Rattle.ath_construction.proofs.pairs.add_pair_after.Goals as goal

pub returns-in-Some-clause-firsts : goal.returns-in-Some-clause-firsts
returns-in-Some-clause-firsts c = first_more same_name_key name_key name_key-true c.args.v.now c.args.before.now c.args.firsts.now.entries c.requires (ap is_some (sym c.in-Some.ensures))

pub returns-clause-firsts : goal.returns-clause-firsts
returns-clause-firsts c =
    let filed = name-filed c.args.firsts.now.entries c.insert.new.self.entries c.name_key.result (length c.args.before.now) (length c.args.before.now) (λ q. c.in_ok-insert.ensures.updates.0 q) refl in
    both_more same_name_key name_key name_key-true c.args.v.now name_key-turned c.args.before.now c.args.firsts.now.entries c.insert.new.self.entries c.requires (sym c.in_default.ensures) (rw c.name_key.ensures at filed)
