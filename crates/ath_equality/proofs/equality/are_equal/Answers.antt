use Rattle.std.proofs.Common.{rules, ◌≡◌, List, [], ◌∷◌, ◌++◌, sym, ◌∙◌, subst, ap}
use Rattle.ath_values.specs.declared.value.ValueId.{ValueId}
use Rattle.ath_equality.specs.Equality.{equal_values}
use Rattle.ath_equality.specs.Nodes.{Tells}
use Rattle.ath_equality.proofs.Pairs.{popped, inside, stored, step_on, step_off, lighter, all_told, told_first}
use Rattle.ath_equality.proofs.equality.are_equal.Goals as goal

pub loop-pair-init : goal.loop-pair-init
loop-pair-init c = λ p t u h g.
    let first : c.push.new.self.items ≡ (c.args.v, c.args.w) ∷ [] = c.in_ok-push.ensures.items ∙ ap (λ l. l ++ (c.args.v, c.args.w) ∷ []) c.new-left.ensures.items in
    subst (λ (l : List (ValueId × ValueId)). Tells p c.args.store.now c.args.envs.now l (equal_values t u)) (sym first) (told_first p c.args.store.now c.args.envs.now c.args.v c.args.w t u h g)

pub get-x-requires : goal.get-x-requires
get-x-requires c =
    let k = c.requires in
    let r = popped k.0 c.args.store.now c.args.envs.now _ _ c.in-Some.pair _ c.in-Some.ensures.items (c.loop-pair.invariant k.0 k.1 k.2 k.3 k.4) in
    inside k.0 c.args.store.now c.args.envs.now c.in-Some.pair.0 r.0 r.3

pub get-y-requires : goal.get-y-requires
get-y-requires c =
    let k = c.requires in
    let r = popped k.0 c.args.store.now c.args.envs.now _ _ c.in-Some.pair _ c.in-Some.ensures.items (c.loop-pair.invariant k.0 k.1 k.2 k.3 k.4) in
    inside k.0 c.args.store.now c.args.envs.now c.in-Some.pair.1 r.1 r.4

pub are_alike-requires-clause-left : goal.are_alike-requires-clause-left
are_alike-requires-clause-left c =
    let k = c.requires in
    let r = popped k.0 c.args.store.now c.args.envs.now _ _ c.in-Some.pair _ c.in-Some.ensures.items (c.loop-pair.invariant k.0 k.1 k.2 k.3 k.4) in
    stored k.0 c.args.store.now c.args.envs.now c.get-x.result.now r.0 (c.get-x.ensures k.0 c.args.store.now r.0 r.3)

pub are_alike-requires-clause-right : goal.are_alike-requires-clause-right
are_alike-requires-clause-right c =
    let k = c.requires in
    let r = popped k.0 c.args.store.now c.args.envs.now _ _ c.in-Some.pair _ c.in-Some.ensures.items (c.loop-pair.invariant k.0 k.1 k.2 k.3 k.4) in
    stored k.0 c.args.store.now c.args.envs.now c.get-y.result.now r.1 (c.get-y.ensures k.0 c.args.store.now r.1 r.4)

pub returns-then-not-are_alike : goal.returns-then-not-are_alike
returns-then-not-are_alike c = λ p t u h g.
    let r = popped p c.args.store.now c.args.envs.now _ _ c.in-Some.pair _ c.in-Some.ensures.items (c.loop-pair.invariant p t u h g) in
    step_off p c.args.store.now c.args.envs.now c.get-x.result.now c.get-y.result.now r.0 r.1 (equal_values t u) r.2 (c.get-x.ensures p c.args.store.now r.0 r.3) (c.get-y.ensures p c.args.store.now r.1 r.4) r.6 (sym c.are_alike.ensures ∙ c.if-not-are_alike.true)

pub loop-pair-smaller : goal.loop-pair-smaller
loop-pair-smaller c =
    let k = c.requires in
    let r = popped k.0 c.args.store.now c.args.envs.now _ _ c.in-Some.pair _ c.in-Some.ensures.items (c.loop-pair.invariant k.0 k.1 k.2 k.3 k.4) in
    rw (c.in_ok-push_parts.ensures, c.in-Some.ensures.items) (lighter k.0 c.args.store.now c.args.envs.now _ c.in-Some.pair c.get-x.result.now c.get-y.result.now r.0 r.3 (c.get-x.ensures k.0 c.args.store.now r.0 r.3))

pub loop-pair-preserved : goal.loop-pair-preserved
loop-pair-preserved c = λ p t u h g.
    let r = popped p c.args.store.now c.args.envs.now _ _ c.in-Some.pair _ c.in-Some.ensures.items (c.loop-pair.invariant p t u h g) in
    subst (λ (l : List (ValueId × ValueId)). Tells p c.args.store.now c.args.envs.now l (equal_values t u)) (sym c.in_ok-push_parts.ensures)
    (step_on p c.args.store.now c.args.envs.now _ c.get-x.result.now c.get-y.result.now r.0 r.1 (equal_values t u) r.2 (c.get-x.ensures p c.args.store.now r.0 r.3) (c.get-y.ensures p c.args.store.now r.1 r.4) r.5 r.6 (sym c.are_alike.ensures ∙ c.if-not-are_alike.false))

pub returns : goal.returns
returns c = λ p t u h g.
    let empty : c.loop-pair.left.items ≡ [] = search rules in
    all_told p c.args.store.now c.args.envs.now (equal_values t u) (subst (λ (l : List (ValueId × ValueId)). Tells p c.args.store.now c.args.envs.now l (equal_values t u)) empty (c.loop-pair.invariant p t u h g))
