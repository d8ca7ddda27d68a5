use Rattle.std.proofs.Common.{◌∷◌, ◌<◌, List, reverse, refl, sym, ◌∙◌, ap, subst}
use Rattle.std.proofs.lemmas.List.Elements.{All-same}
use Rattle.ath_reader.specs.Reading.{Reading}
use Rattle.ath_session.specs.Run.{Configuration, IsMove}
use Rattle.ath_session.specs.Steps.{configuration_of, IsGoing, weight}
use Rattle.ath_session.proofs.ReadLaws.{innermost}
use Rattle.ath_session.proofs.AdvanceLaws.{popped}
use Rattle.ath_session.proofs.desk.advance.Goals as goal

pub read_on-requires-clause-going : goal.read_on-requires-clause-going
read_on-requires-clause-going g c =
    All-same IsGoing (c.in-Some.reader ∷ reverse c.pop.new.self.items) (reverse c.args.desk.now.open.items) (sym (ap (λ (rs : List Reading). reverse rs) c.in-Some.ensures.items ∙ innermost c.pop.new.self.items c.in-Some.reader)) c.requires.going

pub returns-in-Some-clause-did : goal.returns-in-Some-clause-did
returns-in-Some-clause-did g c = λ t m told moves.
    let same = popped (configuration_of c.args.desk.now) c.args.desk.now.open.items c.pop.new.self.items c.in-Some.reader refl c.in-Some.ensures.items in
    c.read_on.ensures.did t m told (subst (λ (k : Configuration). IsMove t.texts k m) same moves)

pub returns-in-Some-clause-falls : goal.returns-in-Some-clause-falls
returns-in-Some-clause-falls g c = λ on.
    let same = popped (configuration_of c.args.desk.now) c.args.desk.now.open.items c.pop.new.self.items c.in-Some.reader refl c.in-Some.ensures.items in
    subst (λ (k : Configuration). weight (configuration_of c.read_on.new.desk) < weight k) (sym same) (c.read_on.ensures.falls on)
