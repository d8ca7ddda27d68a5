-- A store without nodes is sorted in the signature that is there at first.
use Rattle.std.proofs.Common.{◌≡◌, List, [], refl, sym, ◌∙◌, ap, arith}
use Rattle.ath_sorts.specs.declared.sorts.SVar.{SVar}
use Rattle.ath_sorts.specs.declared.sorts.Sort.{Var}
use Rattle.ath_sorts.specs.Signature.{Signature, initial}
use Rattle.ath_sorts.proofs.ValidityLaws.{initial_valid}
use Rattle.ath_trees.specs.declared.node.Var.{Var as Variable}
use Rattle.ath_terms.specs.declared.node.TermNode.TheVariants as Node
use Rattle.ath_trees.specs.Tree.{Term}
use Rattle.ath_terms.specs.Nodes.{term_tree}
use Rattle.ath_terms.specs.Trees.{Trees}
use Rattle.ath_trees.specs.WellSorted.{HasSort, is_valid_sort}
use Rattle.ath_trees.proofs.ValidSorts.{valid-var}
use Rattle.ath_terms.specs.SortsIn.{IsSortedIn}

pub empty_sorted : (sig : Signature) (s : Trees) → sig ≡ initial → s ≡ record { terms = []; sorts = []; sents = [] } → IsSortedIn sig s
empty_sorted sig s e f = rw (e, f) (record { valid = initial_valid; boolean_there = refl; terms = λ k h. absurd (omega (arith, h)); sents = λ k h. absurd (omega (arith, h)) })

-- a variable whose sort is a variable is well-sorted
pub variable_has : (sig : Signature) (ts : List Term) (w : Variable) (v : SVar) → w.sort ≡ Var v → HasSort sig (term_tree ts (Node.Var w)) (Var v)
variable_has sig ts w v e = HasSort.var_has (ap (is_valid_sort sig) e ∙ valid-var sig v) (sym e)
