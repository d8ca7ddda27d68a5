use Rattle.std.proofs.Common.{ap}
use Rattle.ath_terms.specs.Trees.{sent_at}
use Rattle.ath_alpha.proofs.BinderLaws.{lefts-outside, rights-outside}
use Rattle.ath_alpha.proofs.FormLaws.{told-alpha, itself-alpha}
use Rattle.ath_alpha.proofs.alike.is_alpha_equal.Goals as goal

pub returns-then-p-q : goal.returns-then-p-q
returns-then-p-q c = itself-alpha (sent_at c.args.store.now.sents c.args.p.0) (sent_at c.args.store.now.sents c.args.q.0) (ap (sent_at c.args.store.now.sents) c.if-p-q.true)

pub returns : goal.returns
returns c = told-alpha c.are_like_sents.result (sent_at c.args.store.now.sents c.args.p.0) (sent_at c.args.store.now.sents c.args.q.0) (rw (lefts-outside, rights-outside) at c.are_like_sents.ensures)
