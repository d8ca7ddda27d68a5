use Rattle.std.proofs.Common.{◌≡◌, false, ◌||◌, ◌∙◌, sym, ap, arith}
use Rattle.std.specs.List.{list_any}
use Rattle.std.proofs.lemmas.List.Folds.{list_any_at}
use Rattle.ath_sorts.specs.Sorts.{image}
use Rattle.ath_trees.specs.Variables.{free_vars}
use Rattle.ath_trees.proofs.Occurring.{or-left}
use Rattle.ath_terms.specs.Trees.{term_at, sent_at}
use Rattle.ath_subst.specs.Meeting.{meets_past}
use Rattle.ath_subst.proofs.MeetingLaws.{any_term, any_sent, any-at-equal, any-at-conn, met-none, none-next, none-all, past-bound}
use Rattle.ath_subst.proofs.meeting.+is_met_past.Goals as goal

pub returns-then-sent_lacks_name : goal.returns-then-sent_lacks_name
returns-then-sent_lacks_name t c = met-none (image c.args.subst.now) c.args.v.now c.args.bound.now (free_vars (sent_at c.args.store.now.sents c.args.p.0)) (c.sent_lacks_name.ensures c.if-sent_lacks_name.true)

pub returns-then-met : goal.returns-then-met
returns-then-met t c =
    let test = meets_past (image c.args.subst.now) c.args.v.now c.args.bound.now in
    sym (sym (any-at-equal test c.args.store.now c.sent.result.now c.args.p.0 c.sent.ensures.tree c.in-Eq.s c.in-Eq.t c.in-Eq.is)
    ∙ or-left (any_term test (term_at c.args.store.now.terms c.in-Eq.s.0)) (any_term test (term_at c.args.store.now.terms c.in-Eq.t.0)) (sym c.in_ok-met-in-Eq.ensures ∙ c.if-met.true))

pub returns-in_ok-other-in-Eq : goal.returns-in_ok-other-in-Eq
returns-in_ok-other-in-Eq t c =
    let test = meets_past (image c.args.subst.now) c.args.v.now c.args.bound.now in
    let none : any_term test (term_at c.args.store.now.terms c.in-Eq.s.0) ≡ false = sym c.in_ok-met-in-Eq.ensures ∙ c.if-met.false in
    c.in_ok-other-in-Eq.ensures ∙ ap (λ b. b || any_term test (term_at c.args.store.now.terms c.in-Eq.t.0)) (sym none)
    ∙ any-at-equal test c.args.store.now c.sent.result.now c.args.p.0 c.sent.ensures.tree c.in-Eq.s c.in-Eq.t c.in-Eq.is

pub loop-i-preserved : goal.loop-i-preserved
loop-i-preserved t c = none-next (λ j. any_sent (meets_past (image c.args.subst.now) c.args.v.now c.args.bound.now) (sent_at c.args.store.now.sents j.0)) c.as_slice-parts.result.now c.loop-i.i (record { 0 = 0 }) (omega arith) c.loop-i.invariant (sym c.in_ok-met-in-Conn.ensures ∙ c.if-met-2.false)

pub returns-then-met-2 : goal.returns-then-met-2
returns-then-met-2 t c =
    let test = meets_past (image c.args.subst.now) c.args.v.now c.args.bound.now in
    sym (sym (any-at-conn test c.args.store.now c.sent.result.now c.args.p.0 c.sent.ensures.tree c.in-Conn.field-0 c.in-Conn.ids c.as_slice-parts.result.now _ c.args.p.0 c.in-Conn.is c.as_slice-parts.ensures c.sent.ensures.below)
    ∙ list_any_at (λ j. any_sent test (sent_at c.args.store.now.sents j.0)) c.as_slice-parts.result.now c.loop-i.i (record { 0 = 0 }) (omega arith) (sym c.in_ok-met-in-Conn.ensures ∙ c.if-met-2.true))

pub returns-after-loop-i : goal.returns-after-loop-i
returns-after-loop-i t c =
    let test = meets_past (image c.args.subst.now) c.args.v.now c.args.bound.now in
    none-all (λ j. any_sent test (sent_at c.args.store.now.sents j.0)) c.as_slice-parts.result.now c.loop-i.i (omega arith) c.loop-i.invariant
    ∙ any-at-conn test c.args.store.now c.sent.result.now c.args.p.0 c.sent.ensures.tree c.in-Conn.field-0 c.in-Conn.ids c.as_slice-parts.result.now _ c.args.p.0 c.in-Conn.is c.as_slice-parts.ensures c.sent.ensures.below

pub returns-in_ok-met-in-Quant : goal.returns-in_ok-met-in-Quant
returns-in_ok-met-in-Quant t c =
    let f = image c.args.subst.now in
    let body = free_vars (sent_at c.args.store.now.sents c.in-Quant.body.0) in
    c.in_ok-met-in-Quant.ensures
    ∙ ap (λ us. list_any (meets_past f c.args.v.now us) body) (c.as_slice.ensures.value ∙ c.in_ok-inner-in-Quant.ensures)
    ∙ past-bound f c.args.v.now c.args.bound.now c.args.store.now c.sent.result.now c.args.p.0 c.in-Quant.field-0 c.in-Quant.u c.in-Quant.body c.sent.ensures.tree c.in-Quant.is
