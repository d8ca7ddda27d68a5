use Rattle.std.proofs.Common.{◌≡◌, ◌∙◌, sym, ◌+◌, ◌-◌, ◌/◌, take, length, subst, arith}
use Rattle.std.proofs.lemmas.List.{take_all}
use Rattle.ath_sorts.specs.declared.sorts.Sort.{Var}
use Rattle.ath_unifiers.specs.Unifiers.{HasUnifier}
use Rattle.ath_unifiers.proofs.GraphPairs.{some_pairs, unifier_found, middle_below}
use Rattle.ath_unifiers.proofs.unification.clash.Goals as goal

pub loop-high-init : goal.loop-high-init
loop-high-init c =
    let pairs = c.args.pairs.now in
    record {
      order = some_pairs pairs c.requires;
      within = omega arith;
      unified = (λ v. Var v, tt);
      not = λ u. c.requires (subst HasUnifier (take_all (length pairs) pairs (omega arith)) u);
    }

pub loop-high-preserved-then-is_some : goal.loop-high-preserved-then-is_some
loop-high-preserved-then-is_some c =
    let i = c.loop-high.invariant in
    let low = c.loop-high.low in
    let high = c.loop-high.high in
    record {
      order = middle_below low high c.loop-high-test.true;
      within = i.within;
      unified = unifier_found c.in_ok-graph_of.field-0 _ (take (low + (high - low) / 2) c.args.pairs.now) (sym c.is_some.ensures ∙ c.if-is_some.true) c.in_ok-graph_of.ensures;
      not = i.not;
    }

pub returns : goal.returns
returns c =
    let i = c.loop-high.invariant in
    let low = c.loop-high.low in
    let high = c.loop-high.high in
    let last : low + 1 ≡ high = let o = i.order in let t = c.loop-high-test.false in omega arith in
    (let o = i.order in let w = i.within in omega arith, i.unified, λ u. i.not (subst (λ n. HasUnifier (take n c.args.pairs.now)) last u))
