use Rattle.std.proofs.Common.{arith}
use Rattle.ath_terms.proofs.StoreLaws.{sents-count, sent-is, sent-parts}
use Rattle.ath_terms.proofs.store.Store.sent.Goals as goal

pub index-requires : goal.index-requires
index-requires c = let e = sents-count c.self.inside.terms.items c.self.inside.sents.items c.args.self.now c.self.view_is c.self.invariant.0 in omega (arith, c.self.inside.sents.ok.0)

pub returns-clause-tree : goal.returns-clause-tree
returns-clause-tree c = rw c.index.ensures (sent-is c.self.inside.terms.items c.self.inside.sents.items c.args.self.now c.self.view_is c.self.invariant.0 c.args.p.0 c.index.result.now c.requires)

pub returns-clause-below : goal.returns-clause-below
returns-clause-below c = rw c.index.ensures (sent-parts c.self.inside.terms.items c.self.inside.sents.items c.args.self.now c.self.view_is c.self.invariant.0 c.args.p.0 c.index.result.now c.requires)
