use Rattle.std.proofs.Common.{◌∙◌, sym, arith}
use Rattle.std.proofs.lemmas.List.Folds.{list_any_at}
use Rattle.ath_sorts.specs.Sorts.{image}
use Rattle.ath_trees.specs.Variables.{term_vars}
use Rattle.ath_terms.specs.Trees.{term_at}
use Rattle.ath_subst.specs.Meeting.{meets_past}
use Rattle.ath_subst.proofs.MeetingLaws.{any_term, any-at-app, met-none, none-next, none-all}
use Rattle.ath_subst.proofs.meeting.+is_met_in_term.Goals as goal

pub returns-then-lacks_name : goal.returns-then-lacks_name
returns-then-lacks_name t c = met-none (image c.args.subst.now) c.args.v.now c.args.bound.now (term_vars (term_at c.args.store.now.terms c.args.t.0)) (c.lacks_name.ensures c.if-lacks_name.true)

pub loop-i-preserved : goal.loop-i-preserved
loop-i-preserved t c = none-next (λ j. any_term (meets_past (image c.args.subst.now) c.args.v.now c.args.bound.now) (term_at c.args.store.now.terms j.0)) c.as_slice-parts.result.now c.loop-i.i (record { 0 = 0 }) (omega arith) c.loop-i.invariant (sym c.in_ok-met-in-App.ensures ∙ c.if-met.false)

pub returns-then-met : goal.returns-then-met
returns-then-met t c =
    sym (sym (any-at-app (meets_past (image c.args.subst.now) c.args.v.now c.args.bound.now) c.args.store.now c.term.result.now c.args.t.0 c.term.ensures.tree c.in-App.field-0 c.in-App.field-1 c.in-App.args c.as_slice-parts.result.now c.in-App.is c.as_slice-parts.ensures)
    ∙ list_any_at (λ j. any_term (meets_past (image c.args.subst.now) c.args.v.now c.args.bound.now) (term_at c.args.store.now.terms j.0)) c.as_slice-parts.result.now c.loop-i.i (record { 0 = 0 }) (omega arith) (sym c.in_ok-met-in-App.ensures ∙ c.if-met.true))

pub returns-after-loop-i : goal.returns-after-loop-i
returns-after-loop-i t c =
    none-all (λ j. any_term (meets_past (image c.args.subst.now) c.args.v.now c.args.bound.now) (term_at c.args.store.now.terms j.0)) c.as_slice-parts.result.now c.loop-i.i (omega arith) c.loop-i.invariant
    ∙ any-at-app (meets_past (image c.args.subst.now) c.args.v.now c.args.bound.now) c.args.store.now c.term.result.now c.args.t.0 c.term.ensures.tree c.in-App.field-0 c.in-App.field-1 c.in-App.args c.as_slice-parts.result.now c.in-App.is c.as_slice-parts.ensures
