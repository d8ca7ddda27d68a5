use Rattle.std.proofs.Common.{rules, ◌≡◌, Option, Some, Err, Ok, Result, Bool, true, false, sym, subst, ap, ◌∙◌}
use Rattle.ath_numbering.specs.declared.tree.DirectiveTree.{DirectiveTree}
use Rattle.ath_reader.specs.declared.reader.SyntaxError.{SyntaxError}
use Rattle.ath_reader.specs.declared.reader.Taken.{Taken}
use Rattle.ath_reader.specs.declared.reader.Taken.TheVariants.{On, Whole}
use Rattle.ath_reader.specs.Steps.{Turns, ReadsTree, is_end}
use Rattle.ath_reader.proofs.Turned.{begun_first, begins_carried, turned_on, turned_whole, turned_wants, turned_err}
use Rattle.ath_reader.proofs.reader.read_tree.Goals.{else-not-begun-via-then-not-begun+else-is_end, else-not-begun-via-else-not-begun}
use Rattle.ath_reader.proofs.reader.read_tree.Goals as goal

pub loop-state-init : goal.loop-state-init
loop-state-init c = let h = c.in_ok-state.ensures in begins_carried c.args.tokens.now c.args.names.now c.in_ok-state.state (begun_first _ _ h.items h.values) h.levels

pub returns-in_err-seen : goal.returns-in_err-seen
returns-in_err-seen c =
    let old = c.args.tokens.now in
    let e = c.in_err-seen.ensures in
    subst (λ (r : Result (Option DirectiveTree) SyntaxError). ReadsTree old c.args.names.now r c.look.new.tokens c.look.new.names) {x = Err c.in_err-seen.field-0.0} (search rules)
    (turned_wants old c.args.names.now c.loop-state.tokens c.loop-state.names c.loop-state.state c.loop-state.begun c.loop-state.invariant c.look.new.tokens c.look.new.names c.in_err-seen.field-0.0
    e.1 (e.2 ∙ ap (λ d. d.text) c.loop-state.invariant.same) (e.3 ∙ ap (λ d. d.file) c.loop-state.invariant.same) e.0)

pub returns-in_err-next : goal.returns-in_err-next
returns-in_err-next c =
    let old = c.args.tokens.now in
    subst (λ (r : Result (Option DirectiveTree) SyntaxError). ReadsTree old c.args.names.now r c.look.new.tokens c.look.new.names) {x = Err c.in_err-next.field-0.0} (search rules)
    (turned_err old c.args.names.now c.loop-state.tokens c.loop-state.names c.loop-state.state c.loop-state.begun c.loop-state.invariant c.in_ok-seen.seen c.look.new.tokens c.look.new.names c.in_err-next.field-0.0
    c.in_ok-seen.ensures
    (λ b. elim c.else-not-begun.branch [ else-not-begun-via-then-not-begun+else-is_end w ↦ sym w.is_end.ensures ∙ w.if-is_end.false | else-not-begun-via-else-not-begun w ↦ grind (rules, b, w.if-not-begun.false) ])
    c.in_err-next.ensures)

pub returns-in-Whole : goal.returns-in-Whole
returns-in-Whole c =
    turned_whole c.args.tokens.now c.args.names.now c.loop-state.tokens c.loop-state.names c.loop-state.state c.loop-state.begun c.loop-state.invariant c.in_ok-seen.seen c.look.new.tokens c.back_to.new.self c.look.new.names c.in-Whole.tree
    c.requires c.in_ok-seen.ensures
    (subst (λ (t : Taken). Turns c.look.new.tokens c.loop-state.state c.in_ok-seen.seen (Ok t)) c.in-Whole.is c.in_ok-next.ensures)
    (search rules)

pub loop-state-preserved-in-On : goal.loop-state-preserved-in-On
loop-state-preserved-in-On c =
    turned_on c.args.tokens.now c.args.names.now c.loop-state.tokens c.loop-state.names c.loop-state.state c.loop-state.begun c.loop-state.invariant c.in_ok-seen.seen c.look.new.tokens c.look.new.names c.in-On.next
    c.in_ok-seen.ensures
    (subst (λ (t : Taken). Turns c.look.new.tokens c.loop-state.state c.in_ok-seen.seen (Ok t)) c.in-On.is c.in_ok-next.ensures)

pub loop-state-preserved-in-On-2 : goal.loop-state-preserved-in-On-2
loop-state-preserved-in-On-2 c =
    turned_on c.args.tokens.now c.args.names.now c.loop-state.tokens c.loop-state.names c.loop-state.state c.loop-state.begun c.loop-state.invariant c.in_ok-seen.seen c.look.new.tokens c.look.new.names c.in-On.next
    c.in_ok-seen.ensures
    (subst (λ (t : Taken). Turns c.look.new.tokens c.loop-state.state c.in_ok-seen.seen (Ok t)) c.in-On.is c.in_ok-next.ensures)
