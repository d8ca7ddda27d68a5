use Rattle.std.proofs.Common.{refl, sym, ◌∙◌}
use Rattle.ath_sorts.specs.Instances.{is_rigid}
use Rattle.ath_alpha.specs.Binders.{lefts_of, rights_of}
use Rattle.ath_alpha.proofs.BinderLaws.{met}
use Rattle.ath_alpha.proofs.instance.match_var.Goals as goal

pub returns-in-Apart : goal.returns-in-Apart
returns-in-Apart c =
    let m = met (lefts_of c.args.at.now.binders.now) (rights_of c.args.at.now.binders.now) c.args.v.now c.args.w.now _ (c.in-Apart.ensures 0) in
    sym (m.unmatched (is_rigid c.args.at.now.rigid.now) c.args.found.now)

pub returns-then-not-is_namesake : goal.returns-then-not-is_namesake
returns-then-not-is_namesake c =
    let m = met (lefts_of c.args.at.now.binders.now) (rights_of c.args.at.now.binders.now) c.args.v.now c.args.w.now _ (c.in-Free.ensures 0) in
    let e = sym c.is_namesake.ensures ∙ c.if-not-is_namesake.true in
    rw (m.0, m.1, e) refl

pub returns-else-not-is_namesake : goal.returns-else-not-is_namesake
returns-else-not-is_namesake c =
    let m = met (lefts_of c.args.at.now.binders.now) (rights_of c.args.at.now.binders.now) c.args.v.now c.args.w.now _ (c.in-Free.ensures 0) in
    let e = sym c.is_namesake.ensures ∙ c.if-not-is_namesake.false in
    rw (m.0, m.1, e) c.match_sort.ensures
