use Rattle.std.proofs.Common.{sym, ◌∙◌, ap, subst, Some, List, [], ◌∷◌, ◌++◌, ℕ, take, get_or, arith}
use Rattle.std.proofs.lemmas.List.{take_more, take_all}
use Rattle.ath_sorts.specs.declared.sorts.Sort.{Sort, Var}
use Rattle.ath_unifiers.specs.declared.nodes.Node.TheVariants.{Branch}
use Rattle.ath_unifiers.specs.Graphs.{AllUnfold, nothing, leaf, branch}
use Rattle.ath_sorts.proofs.Gets.{get-from-or}
use Rattle.ath_unifiers.proofs.GraphSizes.{head_is, child_tree, all_snoc, has_size}
use Rattle.ath_unifiers.proofs.graph.Graph.+tree.Goals as goal

pub loop-child-init : goal.loop-child-init
loop-child-init t c = subst (λ (ts : List Sort). AllUnfold c.args.self.now [] ts) (sym c.new-args.ensures) nothing

pub tree-requires : goal.tree-requires
tree-requires t c =
    let js = c.as_slice-child-items.result.now in
    let i = c.loop-child.child-index in
    let z = (has_size c.requires.0).1 in
    let d = c.requires.1.1 in
    let m = c.decreases in
    let head = (head_is c.args.self.now c.args.at c.requires.0 c.as_slice.result.now c.class_of.result c.index-as_slice-class_of.result c.requires.1.0 c.as_slice.ensures c.class_of.ensures c.index-as_slice-class_of.is ∙ ap Some c.in-Branch.is) ∙ ap (λ (x : List ℕ). Some (Branch c.in-Branch.name x)) (sym c.as_slice-child-items.ensures) in
    (omega arith, child_tree c.args.self.now c.args.at c.in-Branch.name js c.args.depth i (get_or js i 0) head (get-from-or js i 0 c.loop-child-test.true) c.requires)

pub loop-child-preserved : goal.loop-child-preserved
loop-child-preserved t c =
    let js = c.as_slice-child-items.result.now in
    let i = c.loop-child.child-index in
    let e = take_more js i 0 c.loop-child-test.true in
    let r = all_snoc (take i js) c.loop-child.args (get_or js i 0) c.in_ok-arg-in-Branch.arg c.loop-child.invariant c.in_ok-arg-in-Branch.ensures in
    let P : List ℕ → List Sort → Type 0 = λ x ts. AllUnfold c.args.self.now x ts in
    subst (λ x. P x c.push.new.self) (sym e) (subst (λ ts. P (take i js ++ get_or js i 0 ∷ []) ts) (sym c.in_ok-push-in-Branch.ensures.ok) r)

pub returns-in-Leaf : goal.returns-in-Leaf
returns-in-Leaf t c =
    leaf c.in-Leaf.v (head_is c.args.self.now c.args.at c.requires.0 c.as_slice.result.now c.class_of.result c.index-as_slice-class_of.result c.requires.1.0 c.as_slice.ensures c.class_of.ensures c.index-as_slice-class_of.is ∙ ap Some c.in-Leaf.is) (λ _. Var c.in-Leaf.v)

pub returns-in_ok-tree-in-Branch : goal.returns-in_ok-tree-in-Branch
returns-in_ok-tree-in-Branch t c =
    let js = c.as_slice-child-items.result.now in
    let head = (head_is c.args.self.now c.args.at c.requires.0 c.as_slice.result.now c.class_of.result c.index-as_slice-class_of.result c.requires.1.0 c.as_slice.ensures c.class_of.ensures c.index-as_slice-class_of.is ∙ ap Some c.in-Branch.is) ∙ ap (λ (x : List ℕ). Some (Branch c.in-Branch.name x)) (sym c.as_slice-child-items.ensures) in
    let all = subst (λ (x : List ℕ). AllUnfold c.args.self.now x c.loop-child.args) (take_all c.loop-child.child-index js c.loop-child-test.false) c.loop-child.invariant in
    branch c.in-Branch.name js c.loop-child.args head all c.in_ok-tree-in-Branch.ensures
