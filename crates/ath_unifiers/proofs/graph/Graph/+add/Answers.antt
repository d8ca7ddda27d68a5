use Rattle.std.proofs.Common.{sym, ◌∙◌, ap, subst, List, ◌++◌, ◌∷◌, [], take, ℕ}
use Rattle.std.proofs.lemmas.List.{take_more, take_all}
use Rattle.ath_unifiers.specs.declared.graph.Graph.{Graph}
use Rattle.ath_sorts.specs.declared.sorts.Sort.{Sort, Con}
use Rattle.ath_unifiers.specs.Graphs.{AddsSort, AddsSorts}
use Rattle.ath_unifiers.proofs.GraphGrowth.{adds_more, adds_con}
use Rattle.ath_unifiers.proofs.graph.Graph.+add.Goals as goal

pub loop-arg-preserved : goal.loop-arg-preserved
loop-arg-preserved t c =
    let args = c.as_slice-arg-items.result.now in
    let i = c.loop-arg.arg-index in
    let e = take_more args i c.arg-item.result c.loop-arg-test.true ∙ ap (λ (s : Sort). take i args ++ s ∷ []) (sym c.arg-item.is) in
    let r = adds_more c.args.self.now c.loop-arg.self c.add.new.self (take i args) c.loop-arg.children c.arg-item.result c.in_ok-child-in-Con.child c.loop-arg.invariant c.in_ok-child-in-Con.ensures in
    let P : List Sort → List ℕ → Type 0 = λ ss is. AddsSorts c.args.self.now c.add.new.self ss is in
    subst (λ ss. P ss c.push.new.self) (sym e) (subst (λ is. P (take i args ++ c.arg-item.result ∷ []) is) (sym c.in_ok-push-in-Con.ensures.ok) r)

pub returns-in_ok-added-in-Con : goal.returns-in_ok-added-in-Con
returns-in_ok-added-in-Con t c =
    let args = c.as_slice-arg-items.result.now in
    let new : Graph = record { nodes = c.push_branch.new.self; class = c.push-in-Con.new.self } in
    let h = subst (λ (ss : List Sort). AddsSorts c.args.self.now c.loop-arg.self ss c.loop-arg.children) (take_all c.loop-arg.arg-index args c.loop-arg-test.false) c.loop-arg.invariant in
    let p = c.in_ok-added-in-Con.ensures in
    let r = adds_con c.args.self.now c.loop-arg.self new c.in-Con.name args c.loop-arg.children c.in_ok-added-in-Con.added h (p.at ∙ (h.grows.graph c.requires).even) c.in_ok-push_branch-in-Con.ensures p.class in
    subst (λ (s : Sort). AddsSort c.args.self.now new s c.in_ok-added-in-Con.added) (ap (Con c.in-Con.name) c.as_slice-arg-items.ensures ∙ sym c.in-Con.is) r
