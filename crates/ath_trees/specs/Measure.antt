-- How many nodes a tree has, and how deep it is. A variable and a constant count one; an application, an equation, a
-- connective and a quantifier count one more than their parts. A binder is no part, and sorts aren't counted.
use Rattle.std.specs.Prelude.{ℕ, ◌+◌, ◌≤◌, max}
use Rattle.ath_trees.specs.declared.limits.TheConstants.{MOST_TERM_NODES, MOST_TERM_LEVELS}
use Rattle.ath_trees.specs.Tree.{Term, Terms, var, app, none, more, Sent, atom, equal, negated, joined, bound}

abbrev mutual
  pub term_size : Term → ℕ
  term_size (var v) = 1
  term_size (app f ss ts) = 1 + terms_size ts

  pub terms_size : Terms → ℕ
  terms_size none = 0
  terms_size (more t ts) = term_size t + terms_size ts

abbrev mutual
  pub term_depth : Term → ℕ
  term_depth (var v) = 1
  term_depth (app f ss ts) = 1 + terms_depth ts

  pub terms_depth : Terms → ℕ
  terms_depth none = 0
  terms_depth (more t ts) = max (term_depth t) (terms_depth ts)

abbrev pub sent_size : Sent → ℕ
sent_size (atom t) = term_size t
sent_size (equal s t) = 1 + term_size s + term_size t
sent_size (negated p) = 1 + sent_size p
sent_size (joined c p q) = 1 + sent_size p + sent_size q
sent_size (bound k v p) = 1 + sent_size p

abbrev pub sent_depth : Sent → ℕ
sent_depth (atom t) = term_depth t
sent_depth (equal s t) = 1 + max (term_depth s) (term_depth t)
sent_depth (negated p) = 1 + sent_depth p
sent_depth (joined c p q) = 1 + max (sent_depth p) (sent_depth q)
sent_depth (bound k v p) = 1 + sent_depth p

-- a sentence within the limits
pub record IsSmall (p : Sent) : Type 0 where
  pub nodes : sent_size p ≤ MOST_TERM_NODES
  pub levels : sent_depth p ≤ MOST_TERM_LEVELS
