use Rattle.std.proofs.Common.{◌∙◌, ◌++◌, ◌∷◌, [], List, ap, sym, subst, take, arith}
use Rattle.ath_trees.specs.declared.node.Var.{Var}
use Rattle.ath_terms.specs.Firsts.{HasFirsts}
use Rattle.ath_terms.specs.Found.{name_key, same_name_key}
use Rattle.ath_terms.proofs.VariableLaws.{next}
use Rattle.ath_construction.proofs.PairLaws.{pairs-next}
use Rattle.ath_construction.proofs.pairs.add_variable_pairs.Goals as goal

pub loop-i-preserved : goal.loop-i-preserved
loop-i-preserved c = record {
  firsts =
      let step = next c.args.found.now c.loop-i.i c.index-found-i.result (omega arith) in
      let same = ap (λ (v : Var). take c.loop-i.i c.args.found.now ++ v ∷ []) c.index-found-i.is in
      subst (λ (vs : List Var). HasFirsts same_name_key name_key vs c.add_pair_after.new.firsts.entries) (same ∙ sym step) c.in_ok-add_pair_after.ensures.firsts;
  pairs = pairs-next c.args.pairs.now.items c.args.found.now c.loop-i.i c.index-found-i.result c.loop-i.pairs.items c.add_pair_after.new.pairs.items (omega arith) c.loop-i.invariant.pairs (rw (← c.index-found-i.is) c.in_ok-add_pair_after.ensures.pairs);
}
