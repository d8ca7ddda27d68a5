use Rattle.std.proofs.lemmas.List.{length-map}
use Rattle.std.proofs.lemmas.List.Elements.{All-nil, All-same}
use Rattle.std.proofs.Common.{◌≡◌, ℕ, ◌+◌, ◌<◌, List, [], length, map, drop, reverse, string_bytes, refl, sym, ◌∙◌, ap, subst, arith}
use Rattle.ath_session.specs.Run.{Move, asking}
use Rattle.ath_session.specs.Steps.{configuration_of, Did, IsGoing}
use Rattle.ath_session.proofs.MoveLaws.{next_waiting, next_is}
use Rattle.ath_session.proofs.WeightLaws.{file_falls, opens_items, opens_going}
use Rattle.ath_session.proofs.desk.next_file.Goals as goal

pub returns-clause-did : goal.returns-clause-did
returns-clause-did g c = λ t told.
    let there : c.args.desk.now.next < length c.args.desk.now.named.items = omega arith in
    let name : string_bytes c.index.result.now ≡ c.as_str-2.result.now = sym (c.as_str-2.ensures.value ∙ c.in-Ok.ensures.ok ∙ c.as_str.ensures.value) in
    let waits = next_waiting string_bytes c.args.desk.now.named.items c.args.desk.now.next c.index.result.now there (sym c.index.ensures) in
    let begun : c.len-2.result ≡ length c.args.desk.now.files.items = omega arith in
    let file : c.len-2.result ≡ length (configuration_of c.args.desk.now).files = begun ∙ sym (length-map c.args.desk.now.files.items string_bytes) in
    subst (λ (m : Move). Did m c.ask.result c.args.desk.now.errors c.ask.new.desk.errors (configuration_of c.ask.new.desk) (record { shelf = g.S.Shelf.told c.args.shelf.now; sink = g.K.Sink.told c.args.sink.now }) (record { shelf = g.S.Shelf.told c.ask.new.shelf; sink = g.K.Sink.told c.ask.new.sink }))
    (sym (next_is t.texts (configuration_of c.args.desk.now) c.len-2.result (string_bytes c.index.result.now) _ waits file
    ∙ ap (λ (bytes : List ℕ). asking t.texts (configuration_of (record c.args.desk.now { next = c.args.desk.now.next + 1 })) (record { file = c.len-2.result; line = 1; col = 1 }) bytes) name))
    (c.ask.ensures.did t told)

pub returns-clause-going : goal.returns-clause-going
returns-clause-going g c = λ on.
    opens_going (configuration_of (record c.args.desk.now { next = c.args.desk.now.next + 1 })) (configuration_of c.ask.new.desk) (c.ask.ensures.opens on)
    (All-same IsGoing (reverse c.args.desk.now.open.items) [] (ap (λ rs. reverse rs) c.requires.empty) (All-nil IsGoing))

pub returns-clause-falls : goal.returns-clause-falls
returns-clause-falls g c = λ on.
    let there : c.args.desk.now.next < length c.args.desk.now.named.items = omega arith in
    let waits = next_waiting string_bytes c.args.desk.now.named.items c.args.desk.now.next c.index.result.now there (sym c.index.ensures) in
    file_falls (configuration_of c.args.desk.now) (configuration_of c.ask.new.desk) (string_bytes c.index.result.now) (drop (c.args.desk.now.next + 1) (map string_bytes c.args.desk.now.named.items)) waits (ap (λ rs. reverse rs) c.requires.empty) (c.ask.ensures.opens on)

pub returns-clause-shallow : goal.returns-clause-shallow
returns-clause-shallow g c = λ on.
    let h = opens_items (configuration_of (record c.args.desk.now { next = c.args.desk.now.next + 1 })) (configuration_of c.ask.new.desk) c.args.desk.now.open.items c.ask.new.desk.open.items refl refl (c.ask.ensures.opens on) in
    omega (arith, h, ap (λ xs. length xs) c.requires.empty)
