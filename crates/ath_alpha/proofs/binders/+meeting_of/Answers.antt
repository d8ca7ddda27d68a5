use Rattle.std.proofs.Common.{sym, ◌∙◌}
use Rattle.ath_alpha.specs.Binders.{lefts_of, rights_of}
use Rattle.ath_alpha.proofs.BinderLaws.{lefts-under, rights-under, left-here, right-here}
use Rattle.ath_alpha.proofs.binders.+meeting_of.Goals as goal

pub returns-then-there-2 : goal.returns-then-there-2
returns-then-there-2 t c i = let u = c.in-Under in
    rw (u.is, lefts-under u.a u.b u.outer, rights-under u.a u.b u.outer)
    (right-here (lefts_of u.outer.now) (rights_of u.outer.now) i u.a.now c.args.v.now u.b.now c.args.w.now (sym c.is_same_var-here.ensures ∙ c.if-here.false) (sym c.is_same_var-there.ensures ∙ c.if-there-2.true))

pub returns-else-there : goal.returns-else-there
returns-else-there t c i = let u = c.in-Under in
    rw (u.is, lefts-under u.a u.b u.outer, rights-under u.a u.b u.outer)
    (left-here (lefts_of u.outer.now) (rights_of u.outer.now) i u.a.now c.args.v.now u.b.now c.args.w.now (sym c.is_same_var-here.ensures ∙ c.if-here.true) (sym c.is_same_var-there.ensures ∙ c.if-there.false))
