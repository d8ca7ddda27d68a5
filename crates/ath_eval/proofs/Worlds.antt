-- The world of an evaluation, while its store grows.
use Rattle.std.proofs.Common.{◌≡◌, ℕ, List, refl, sym, ap, ◌∙◌, subst, arith}
use Rattle.ath_terms.specs.Trees.{Trees, Grows}
use Rattle.ath_terms.specs.declared.fresh.Fresh.{Fresh}
use Rattle.ath_terms.proofs.Grow.{grows-none, grows-then}
use Rattle.ath_base.proofs.Scopes.{entries_grow, nodes_in_grow, scope_here, keeps-none, keeps-then}
use Rattle.ath_base.specs.Stands.{IsScope, KeepsScopes, entries_in, entries_of}
use Rattle.ath_calculus.specs.Theory.{theory_of}
use Rattle.ath_base.specs.declared.base.ScopeId.{ScopeId}
use Rattle.ath_syntax.specs.Nodes.{Nodes}
use Rattle.ath_eval.specs.declared.frame.Frame.{Frame}
use Rattle.ath_eval.specs.declared.frame.State.{State}
use Rattle.ath_eval.specs.declared.world.Outcome as code
use Rattle.ath_eval.specs.declared.world.World.{World}
use Rattle.ath_eval.specs.Machine.{Means}
use Rattle.ath_eval.specs.Outcomes.{Context, Left, Outcome}
use Rattle.ath_eval.specs.Room.{charged, IsBelow}
use Rattle.ath_eval.specs.Stretches.{reading, reading_after, Leads}
use Rattle.ath_eval.specs.World.{Evaluates, Passes, Works, Rests, IsAnswerIn, IsAnswer, IsSteady, context_of, environment_of}

pub stays : (w : World) → Evaluates w w
stays w = record { grows = grows-none w.store; names = refl; signature = refl; base = keeps-none w.base.nodes.items; phrases = refl }

pub evaluates_then : (u v w : World) → Evaluates u v → Evaluates v w → Evaluates u w
evaluates_then u v w h k = record {
  grows = grows-then u.store v.store w.store h.grows k.grows;
  names = k.names ∙ h.names;
  signature = k.signature ∙ h.signature;
  base = keeps-then u.base.nodes.items v.base.nodes.items w.base.nodes.items h.base k.base;
  phrases = k.phrases ∙ h.phrases;
}

pub rests_all : (w : World) → Rests w w
rests_all w = record { world = stays w; scope = refl; fuel = refl; fresh = refl }

pub rests_then : (u v w : World) → Rests u v → Rests v w → Rests u w
rests_then u v w h k = record { world = evaluates_then u v w h.world k.world; scope = k.scope ∙ h.scope; fuel = k.fuel ∙ h.fuel; fresh = k.fresh ∙ h.fresh }

-- a world that has another store alone
pub stored : (u v : World) → Grows u.store v.store → v.names ≡ u.names → v.sig ≡ u.sig → v.base ≡ u.base → v.phrases ≡ u.phrases → Evaluates u v
stored u v g n s b p = record { grows = g; names = n; signature = s; base = subst (λ (x : _). KeepsScopes u.base.nodes.items x.nodes.items) (sym b) (keeps-none u.base.nodes.items); phrases = p }

pub few_same : (fresh made : Fresh) → made ≡ fresh → IsBelow made (charged 1 fresh)
few_same fresh made e = subst (λ (x : Fresh). IsBelow x (charged 1 fresh)) (sym e) (omega arith, omega arith)

-- what stays in its scope
pub works_passes : (u v : World) → Works u v → Passes u v
works_passes u v h = record { world = h.world; fuel = h.fuel; few = h.few }

-- what takes no fresh name takes few
pub rests_works : (u v : World) → Rests u v → Works u v
rests_works u v h = record { world = h.world; scope = h.scope; fuel = h.fuel; few = few_same u.fresh v.fresh h.fresh }

pub works_none : (w : World) → Works w w
works_none w = rests_works w w (rests_all w)

pub steady_answers : (u v : World) (o : code.Outcome) (f : Left → Outcome) → Rests u v → IsSteady v.store o f → IsAnswerIn u v o f
steady_answers u v o f h k = subst (λ (x : Fresh). IsAnswer v.store u.fresh x o f) (sym h.fresh) (k u.fresh)

-- the base of a scope, as it stands in the store
pub base_same : (u v : World) → Evaluates u v → v.scope ≡ u.scope → (environment_of v).base ≡ (environment_of u).base
base_same u v h e =
    ap (λ (k : ScopeId). entries_of v.store (entries_in v.base.nodes.items k.0)) e
    ∙ entries_grow u.store v.store h.grows u.base.nodes.items v.base.nodes.items u.scope.0 u.in_store u.inside h.base

-- the world's scope stands for its base
pub here : (w : World) → IsScope w.store w.base.nodes.items w.scope.0 (environment_of w).base
here w = scope_here w.store w.base.nodes.items w.scope.0 w.in_store w.inside

pub context_same : (u v : World) → Evaluates u v → context_of v ≡ context_of u
context_same u v h = λ i. record { names = h.names i; theory = theory_of (h.signature i) }

-- what a stretch keeps, as the world after it reads
pub carried : (u v : World) (before : Outcome → Type 0) (bound fuel : ℕ) (st : State) (fs : List Frame) → Evaluates u v → v.fuel ≡ fuel → Leads u fuel before bound v st fs → (out : Outcome) → before out → Means (reading v) v.phrases v.store v.fuel v.fresh st fs out
carried u v before bound fuel st fs h e k out m =
    subst (λ (n : ℕ). Means (reading v) v.phrases v.store n v.fresh st fs out) (sym e)
    (subst (λ (c : Context). Means (record { context = c; base = v.base.nodes.items; scope = v.scope }) v.phrases v.store fuel v.fresh st fs out) (sym (context_same u v h))
    (subst (λ (x : Nodes). Means (reading_after u v) x v.store fuel v.fresh st fs out) (sym h.phrases) (k.means out m)))

pub ruleset worlds = (stays, evaluates_then, rests_all, rests_then, rests_works, works_none, works_passes, nodes_in_grow)
