-- The codes of trees.
use Rattle.std.specs.Coded.{coded_list}
use base.Stored.{Gv, gnil, gnum, gcons}
use Rattle.ath_sorts.specs.contracts.sorts.Sort as sort
use Rattle.ath_sorts.specs.contracts.sorts.Sym as sym'
use Rattle.ath_trees.specs.contracts.node.Var as var'
use Rattle.ath_trees.specs.contracts.node.Binary as binary
use Rattle.ath_trees.specs.contracts.node.Quant as quant
use Rattle.ath_trees.specs.Tree.{Term, Terms, var, app, none, more, Sent, atom, equal, negated, joined, bound}

abbrev mutual
  pub code_term : Term → Gv
  code_term (var v) = gcons (gnum 0) (var'.the_row.coded.code v)
  code_term (app f ss ts) = gcons (gnum 1) (gcons (sym'.the_row.coded.code f) (gcons ((coded_list sort.the_row.coded).code ss) (code_terms ts)))

  pub code_terms : Terms → Gv
  code_terms none = gnil
  code_terms (more t ts) = gcons (code_term t) (code_terms ts)

abbrev pub code_sent : Sent → Gv
code_sent (atom t) = gcons (gnum 0) (code_term t)
code_sent (equal s t) = gcons (gnum 1) (gcons (code_term s) (code_term t))
code_sent (negated p) = gcons (gnum 2) (code_sent p)
code_sent (joined c p q) = gcons (gnum 3) (gcons (binary.the_row.coded.code c) (gcons (code_sent p) (code_sent q)))
code_sent (bound q v p) = gcons (gnum 4) (gcons (quant.the_row.coded.code q) (gcons (var'.the_row.coded.code v) (code_sent p)))
