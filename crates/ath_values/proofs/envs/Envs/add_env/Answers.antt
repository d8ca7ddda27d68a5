use Rattle.std.proofs.Common.{◌<◌, ◌+◌, length, arith, ap, ◌∙◌, sym, subst}
use Rattle.ath_values.specs.Nodes.{Stores, IsBelow, with_env}
use Rattle.ath_values.proofs.Made.{kept_with_env}
use Rattle.ath_values.proofs.envs.Envs.add_env.Goals as goal

pub invariant_of-self-2 : goal.invariant_of-self-2
invariant_of-self-2 c =
    let below = subst (λ (e : Stores). IsBelow (length e.values) (length e.envs) c.args.node) (sym c.self.view_is) (c.requires.below (length c.args.self.now.envs) c.requires.parent) in
    let parent : c.args.parent.0 < length c.self.inside.envs.items = subst (λ (e : Stores). c.args.parent.0 < length e.envs) (sym c.self.view_is) c.requires.parent in
    rw c.in_ok-push.ensures.items (kept_with_env _ _ c.self.invariant below (omega (arith, c.depth-depth.ensures.few, parent)))

pub returns-clause-added : goal.returns-clause-added
returns-clause-added c =
    let depth = c.depth-depth.result in
    ap (λ l. record { values = c.self.inside.values.items; envs = l }) c.in_ok-push.ensures.items
    ∙ ap (λ (e : Stores). with_env e (record { node = c.args.node; depth = 1 + depth })) c.self.view_is
    ∙ ap (λ n. with_env c.args.self.now (record { node = c.args.node; depth = 1 + n })) c.depth-depth.ensures.same
