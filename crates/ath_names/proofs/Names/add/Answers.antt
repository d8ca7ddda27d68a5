-- A text that the set has keeps the table; another one joins it.
use Rattle.std.proofs.Common.{sym, subst, ◌∙◌, ap, map, string_bytes}
use Rattle.ath_names.specs.Names.{Adds, number_of}
use Rattle.ath_names.proofs.Inserts.{number_of-keys, Adds-present, Adds-inserted, IsTable-inserted}
use Rattle.ath_names.proofs.Names.add.Goals as goal

pub returns-in-Some : goal.returns-in-Some
returns-in-Some c =
    Adds-present c.args.self.now c.args.text.now c.in-Some.number
    (ap (λ ts. number_of ts c.args.text.now) (sym c.self.view_is) ∙ number_of-keys c.self.inside.texts.keys c.args.text.now ∙ sym c.get_index_of.ensures.index ∙ c.in-Some.is)

pub invariant_of-self-2 : goal.invariant_of-self-2
invariant_of-self-2 c =
    IsTable-inserted c.self.inside.texts.keys c.insert_full.new.self.keys c.in_ok-key.key c.args.text.now c.in_ok-key.ensures.ok c.in_ok-number.ensures.keys c.self.invariant c.utf8.text

pub returns : goal.returns
returns c =
    let texts = map string_bytes c.insert_full.new.self.keys in
    subst (λ old. Adds old c.args.text.now texts c.in_ok-number.number) c.self.view_is
    (Adds-inserted c.self.inside.texts.keys c.insert_full.new.self.keys c.in_ok-key.key c.args.text.now c.in_ok-key.ensures.ok c.in_ok-number.ensures.keys c.in_ok-number.number c.in_ok-number.ensures.index)
