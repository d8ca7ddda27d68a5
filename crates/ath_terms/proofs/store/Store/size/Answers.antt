use Rattle.std.proofs.Common.{arith}
use Rattle.ath_terms.proofs.StoreLaws.{terms-count, term-kept, term-nodes-few}
use Rattle.ath_terms.proofs.store.Store.size.Goals as goal

pub index-requires : goal.index-requires
index-requires c = let e = terms-count c.self.inside.terms.items c.self.inside.sents.items c.args.self.now c.self.view_is c.self.invariant.0 in omega (arith, c.self.inside.terms.ok.0)

pub returns-clause-same : goal.returns-clause-same
returns-clause-same c = rw c.index.ensures (term-kept c.self.inside.terms.items c.self.inside.sents.items c.args.self.now c.self.view_is c.self.invariant.0 c.args.t.0 c.index.result.now c.requires).nodes

pub returns-clause-few : goal.returns-clause-few
returns-clause-few c = rw c.index.ensures (term-nodes-few c.self.inside.terms.items c.self.inside.sents.items c.args.self.now c.self.view_is c.self.invariant.0 c.args.t.0 c.index.result.now c.requires)
