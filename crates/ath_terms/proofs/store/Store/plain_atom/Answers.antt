use Rattle.std.proofs.Common.{subst}
use Rattle.ath_terms.specs.Trees.{term_at}
use Rattle.ath_trees.specs.WellSorted.{HasSort}
use Rattle.ath_terms.proofs.store.Store.plain_atom.Goals as goal

pub add_sent-requires-clause-kept : goal.add_sent-requires-clause-kept
add_sent-requires-clause-kept c = record {
  nodes = c.size-nodes.ensures.same;
  levels = c.depth-levels.ensures.same;
  small = record { nodes = rw (← c.size-nodes.ensures.same) c.size-nodes.ensures.few; levels = rw (← c.depth-levels.ensures.same) c.depth-levels.ensures.few };
}

pub returns-clause-sorted : goal.returns-clause-sorted
returns-clause-sorted c = λ sig h e. c.in_ok-sent.ensures.sorted sig h (subst (HasSort sig (term_at c.args.self.now.terms c.args.t.0)) e (h.terms c.args.t.0 c.requires))
