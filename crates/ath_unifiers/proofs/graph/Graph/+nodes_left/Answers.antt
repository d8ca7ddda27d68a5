use Rattle.std.proofs.Common.{sym, ◌∙◌, slice_get, subst, ℕ, ◌≤◌, ◌-◌, arith, inl, inr, Option, List, get_or}
use Rattle.std.specs.Option.{SomeIff}
use Rattle.ath_sorts.specs.Sorts.{size_of, depth_of}
use Rattle.ath_unifiers.specs.declared.nodes.Node.{Node}
use Rattle.ath_unifiers.specs.Graphs.{IsNoBranch}
use Rattle.ath_sorts.proofs.Gets.{get-from-or}
use Rattle.ath_unifiers.proofs.GraphSizes.{turn, all_turns, turn_fails, leaf_fits, leaf-tree, has_size}
use Rattle.ath_unifiers.proofs.graph.Graph.+nodes_left.Goals as goal

pub returns-then-budget-eq0 : goal.returns-then-budget-eq0
returns-then-budget-eq0 t c s a fits =
    let z = has_size s in
    let e = c.then-budget-eq0.either in
    let p = fits.0 in
    let q = fits.1 in
    elim e [ inl b ↦ omega arith | inr d ↦ let k = d.1 in omega arith ]

pub returns-in_err-left : goal.returns-in_err-left
returns-in_err-left t c s a =
    let js = c.in-Some.children.now in
    let i = c.loop-child.child-index in
    let r = turn_fails c.args.self.now c.args.at c.in-Some.field-0-0 js c.loop-child.left c.args.budget c.args.depth i (get_or js i 0) ((λ x. slice_get (sym c.as_slice.ensures x) (sym c.class_of.ensures x)) ∙ c.in-Some.ensures) (get-from-or js i 0 c.loop-child-test.true) c.in_err-left.ensures c.loop-child.invariant s a in
    subst (λ (o : Option ℕ). SomeIff o ((size_of s ≤ c.args.budget) × (depth_of s ≤ c.args.depth)) (c.args.budget - size_of s)) (sym c.from_residual.ensures) r

pub loop-child-preserved : goal.loop-child-preserved
loop-child-preserved t c =
    let js = c.in-Some.children.now in
    let i = c.loop-child.child-index in
    turn c.args.self.now js c.loop-child.left c.in_ok-left.left c.args.budget c.args.depth i (get_or js i 0) (get-from-or js i 0 c.loop-child-test.true) c.in_ok-left.ensures c.loop-child.invariant

pub returns : goal.returns
returns t c =
    all_turns c.args.self.now c.args.at c.in-Some.field-0-0 c.in-Some.children.now c.loop-child.left c.args.budget c.args.depth c.loop-child.child-index ((λ x. slice_get (sym c.as_slice.ensures x) (sym c.class_of.ensures x)) ∙ c.in-Some.ensures) (let e = c.if-budget-eq0.false in omega arith) (let e = c.if-depth-eq0.false in omega arith) c.loop-child-test.false c.loop-child.invariant

pub returns-in_default : goal.returns-in_default
returns-in_default t c s a =
    let none = subst (λ (ns : List Node). IsNoBranch (slice_get ns c.class_of.result)) c.as_slice.ensures c.in_default.ensures in
    let r = leaf-tree (subst (λ k. IsNoBranch (slice_get c.args.self.now.nodes k)) c.class_of.ensures none) a in
    leaf_fits c.args.budget c.args.depth s r.0 (let e = c.if-budget-eq0.false in omega arith) (let e = c.if-depth-eq0.false in omega arith) r.1
