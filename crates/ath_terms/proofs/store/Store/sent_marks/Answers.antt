use Rattle.std.proofs.Common.{arith}
use Rattle.ath_terms.proofs.StoreLaws.{sents-count}
use Rattle.ath_terms.proofs.StoreMarks.{sent-marks}
use Rattle.ath_terms.proofs.store.Store.sent_marks.Goals as goal

pub index-requires : goal.index-requires
index-requires c = let e = sents-count c.self.inside.terms.items c.self.inside.sents.items c.args.self.now c.self.view_is c.self.invariant.0 in omega (arith, c.self.inside.sents.ok.0)

pub returns : goal.returns
returns c = rw c.index.ensures (sent-marks c.self.inside.terms.items c.self.inside.sents.items c.args.self.now c.self.view_is c.self.invariant.0 c.self.invariant.1 c.args.p.0 c.index.result.now c.requires)
