-- Bytes that aren't UTF-8 are no name's; any others are looked up in the set.
use Rattle.std.proofs.Common.{List, ℕ, sym, subst, ◌∙◌, All, IsUtf8}
use Rattle.ath_names.specs.Names.{number_of}
use Rattle.ath_names.proofs.NamesLaws.{number_of-not_utf8}
use Rattle.ath_names.proofs.Inserts.{number_of-keys}
use Rattle.ath_names.proofs.Names.find.Goals as goal

pub returns-in_default : goal.returns-in_default
returns-in_default c =
    let all_text = λ (ts : List (List ℕ)). All IsUtf8 ts in
    sym (number_of-not_utf8 c.args.self.now c.args.text.now (subst all_text c.self.view_is c.self.invariant.utf8) c.in_default.ensures.cases.0)

pub returns : goal.returns
returns c =
    c.get_index_of.ensures.index
    ∙ sym (number_of-keys c.self.inside.texts.keys c.in-Ok.text.now)
    ∙ (λ i. number_of (c.self.view_is i) (c.in-Ok.ensures.cases.0 i))
