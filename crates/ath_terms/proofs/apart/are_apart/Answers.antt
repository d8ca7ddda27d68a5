use Rattle.std.proofs.Common.{◌∙◌, is_some, refl, sym, ap, arith}
use Rattle.std.specs.Map.{lookup}
use Rattle.ath_trees.specs.declared.node.Var.{Var}
use Rattle.ath_terms.specs.Found.{name_key, same_name_key}
use Rattle.ath_terms.proofs.ApartLaws.{apart-next, firsts-next, same-read}
use Rattle.ath_terms.proofs.KeyLaws.{name-filed}
use Rattle.ath_terms.proofs.apart.are_apart.Goals as goal

pub loop-i-preserved : goal.loop-i-preserved
loop-i-preserved c =
    let places = c.loop-i.firsts.entries in
    let none = ap (λ (v : Var). is_some (lookup (same_name_key (name_key v)) places)) (sym c.index-found-i.is) ∙ sym c.is_filed.ensures ∙ c.if-is_filed.false in
    let filed = name-filed places c.insert.new.self.entries c.name_key.result c.loop-i.i c.loop-i.i (λ q. c.in_ok-insert.ensures.updates.0 q) refl in
    record {
      apart = apart-next c.args.found.now places c.loop-i.i c.index-found-i.result (omega arith) c.loop-i.invariant.apart c.loop-i.invariant.firsts none;
      firsts = firsts-next c.args.found.now places c.insert.new.self.entries c.loop-i.i c.index-found-i.result c.name_key.result (omega arith) c.loop-i.invariant.firsts none (c.name_key.ensures ∙ ap name_key (c.index-found-i-in-loop-i.is ∙ same-read c.args.found.now c.loop-i.i c.index-found-i-in-loop-i.result c.index-found-i.result (omega arith))) filed;
    }
