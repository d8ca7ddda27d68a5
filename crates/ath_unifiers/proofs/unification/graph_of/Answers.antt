use Rattle.std.proofs.Common.{◌∙◌, sym, ap, ◌++◌, ◌∷◌, [], ◌+◌, ◌<◌, take, length, subst, arith}
use Rattle.std.proofs.lemmas.List.{take_more}
use Rattle.ath_sorts.specs.declared.sorts.Sort.{Sort}
use Rattle.ath_unifiers.specs.Graphs.{Stands}
use Rattle.ath_unifiers.specs.Unifiers.{HasUnifier}
use Rattle.ath_unifiers.proofs.GraphPairs.{none_with_more, stands_when, none_equated, none_cyclic}
use Rattle.ath_unifiers.proofs.unification.graph_of.Goals as goal

pub returns-then-not-branch : goal.returns-then-not-branch
returns-then-not-branch c =
    let pairs = c.args.pairs.now in
    let at = c.loop-at.at in
    let inside : at < length pairs = let t = c.loop-at-test.true in let r = c.requires in omega arith in
    let e = take_more pairs at c.index-pairs-at.result inside ∙ ap (λ (p : Sort × Sort). take at pairs ++ p ∷ []) (sym c.index-pairs-at.is) in
    let none = none_equated c.equate.new.self (take at pairs ++ c.index-pairs-at.result ∷ []) c.in_ok-equate.field-0 c.if-not-branch.true (c.in_ok-equate.ensures (take at pairs) c.loop-at.invariant) in
    none_with_more pairs (at + 1) c.args.count (let t = c.loop-at-test.true in omega arith) (λ u. none (subst HasUnifier e u))

pub loop-at-preserved : goal.loop-at-preserved
loop-at-preserved c =
    let pairs = c.args.pairs.now in
    let at = c.loop-at.at in
    let inside : at < length pairs = let t = c.loop-at-test.true in let r = c.requires in omega arith in
    let e = take_more pairs at c.index-pairs-at.result inside ∙ ap (λ (p : Sort × Sort). take at pairs ++ p ∷ []) (sym c.index-pairs-at.is) in
    subst (Stands c.equate.new.self) (sym e) (stands_when c.equate.new.self (take at pairs ++ c.index-pairs-at.result ∷ []) c.in_ok-equate.field-0 c.if-not-branch.false (c.in_ok-equate.ensures (take at pairs) c.loop-at.invariant))

pub returns-else-branch : goal.returns-else-branch
returns-else-branch c =
    let pairs = c.args.pairs.now in
    none_with_more pairs c.loop-at.at c.args.count (let l = c.loop-at.auto.at-end in omega arith) (none_cyclic c.loop-at.graph (take c.loop-at.at pairs) c.in_ok-is_acyclic.field-0 c.if-branch.false c.in_ok-is_acyclic.ensures c.loop-at.invariant)
