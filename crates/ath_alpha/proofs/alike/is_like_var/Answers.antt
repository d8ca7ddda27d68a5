use Rattle.ath_alpha.specs.Binders.{lefts_of, rights_of}
use Rattle.ath_alpha.proofs.BinderLaws.{met, free-alike}
use Rattle.ath_alpha.proofs.alike.is_like_var.Goals as goal

pub returns-in-Free : goal.returns-in-Free
returns-in-Free c =
    let m = met (lefts_of c.args.binders.now) (rights_of c.args.binders.now) c.args.v.now c.args.w.now _ (c.in-Free.ensures 0) in
    rw (m.0, m.1) (free-alike c.args.told c.args.v.now c.args.w.now c.is_like_free.result c.is_like_free.ensures)

pub returns-in-Apart : goal.returns-in-Apart
returns-in-Apart c =
    let m = met (lefts_of c.args.binders.now) (rights_of c.args.binders.now) c.args.v.now c.args.w.now _ (c.in-Apart.ensures 0) in
    (λ e. absurd (cc), λ e. absurd (m.unlike c.args.told e))
