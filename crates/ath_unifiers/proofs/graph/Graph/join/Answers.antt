use Rattle.std.proofs.Common.{sym, ◌∙◌, refl, slice_get}
use Rattle.ath_unifiers.specs.declared.graph.Graph.{Graph}
use Rattle.ath_unifiers.specs.Graphs.{class_at}
use Rattle.ath_unifiers.proofs.GraphUnions.{joins_same, joins_apart, clash_unites_none, arguments_at, first_stays, second_stays}
use Rattle.ath_unifiers.proofs.graph.Graph.join.Goals as goal

pub returns-then-a-b : goal.returns-then-a-b
returns-then-a-b c = joins_same c.args.self.now c.args.waiting.now c.args.a c.args.b c.requires.graph c.requires.a_there c.requires.b_there (sym c.class_of-a.ensures ∙ c.if-a-b.true ∙ c.class_of-b.ensures)

pub returns-then-not-branch : goal.returns-then-not-branch
returns-then-not-branch c =
    let g = c.args.self.now in
    let x = class_at g.class c.args.a in
    let y = class_at g.class c.args.b in
    let h = arguments_at c.args.waiting.now c.add_arguments.new.waiting c.as_slice.result.now g.nodes c.class_of-a.result x c.class_of-b.result y c.in_ok-add_arguments.field-0 _ c.as_slice.ensures c.class_of-a.ensures c.class_of-b.ensures c.if-not-branch.true c.in_ok-add_arguments.ensures in
    clash_unites_none g c.requires.graph c.args.waiting.now c.args.a c.args.b c.requires.a_there c.requires.b_there c.add_arguments.new.waiting (slice_get g.nodes x) (slice_get g.nodes y) refl refl h

pub returns-in_ok-join : goal.returns-in_ok-join
returns-in_ok-join c =
    let g = c.args.self.now in
    let x = class_at g.class c.args.a in
    let y = class_at g.class c.args.b in
    let new : Graph = record { nodes = g.nodes; class = c.join.new.self } in
    let h = arguments_at c.args.waiting.now c.add_arguments.new.waiting c.as_slice.result.now g.nodes c.class_of-a.result x c.class_of-b.result y c.in_ok-add_arguments.field-0 _ c.as_slice.ensures c.class_of-a.ensures c.class_of-b.ensures c.if-not-branch.false c.in_ok-add_arguments.ensures in
    let e = first_stays g c.as_slice-2.result.now c.args.a c.args.b c.class_of-a.result c.class_of-b.result c.names_class.result c.join.new.self c.as_slice-2.ensures c.class_of-a.ensures c.class_of-b.ensures c.if-a-b.false c.names_class.ensures c.if-names_class.true c.in_ok-join.ensures in
    joins_apart g c.requires.graph c.args.waiting.now c.args.a c.args.b c.requires.a_there c.requires.b_there new c.add_arguments.new.waiting (λ s. c.if-a-b.false (c.class_of-a.ensures ∙ s ∙ sym c.class_of-b.ensures)) refl e h

pub returns-in_ok-join-2 : goal.returns-in_ok-join-2
returns-in_ok-join-2 c =
    let g = c.args.self.now in
    let x = class_at g.class c.args.a in
    let y = class_at g.class c.args.b in
    let new : Graph = record { nodes = g.nodes; class = c.join-else-names_class.new.self } in
    let h = arguments_at c.args.waiting.now c.add_arguments.new.waiting c.as_slice.result.now g.nodes c.class_of-a.result x c.class_of-b.result y c.in_ok-add_arguments.field-0 _ c.as_slice.ensures c.class_of-a.ensures c.class_of-b.ensures c.if-not-branch.false c.in_ok-add_arguments.ensures in
    let e = second_stays g c.as_slice-2.result.now c.args.a c.args.b c.class_of-a.result c.class_of-b.result c.names_class.result c.join-else-names_class.new.self c.as_slice-2.ensures c.class_of-a.ensures c.class_of-b.ensures c.if-a-b.false c.names_class.ensures c.if-names_class.false c.in_ok-join-2.ensures in
    joins_apart g c.requires.graph c.args.waiting.now c.args.a c.args.b c.requires.a_there c.requires.b_there new c.add_arguments.new.waiting (λ s. c.if-a-b.false (c.class_of-a.ensures ∙ s ∙ sym c.class_of-b.ensures)) refl e h
