-- What the world of an evaluation stands for, and its outcomes.
use Rattle.std.specs.Prelude.{◌≡◌, ◌+◌, ℕ, List}
use Rattle.ath_trees.specs.Tree.{Sent}
use Rattle.ath_terms.specs.Trees.{Trees, sent_at, IsSent, Grows}
use Rattle.ath_terms.specs.declared.fresh.Fresh.{Fresh}
use Rattle.ath_calculus.specs.Derives.{Derives}
use Rattle.ath_calculus.specs.Theory.{Theory, theory_of}
use Rattle.ath_env.specs.Stands.{IsValue}
use Rattle.ath_print.specs.Stands.{IsRefusal}
use Rattle.ath_eval.specs.declared.world.World.{World}
use Rattle.ath_eval.specs.declared.world.Outcome as code
use Rattle.ath_eval.specs.declared.world.Outcome.TheVariants as ends
use Rattle.ath_base.specs.Base.{Entry}
use Rattle.ath_base.specs.Stands.{entries_in, entries_of, KeepsScopes}
use Rattle.ath_eval.specs.Outcomes.{Context, Environment, no_locals, Left, left_of, Outcome, gives, concludes, fails, exhausts}
use Rattle.ath_eval.specs.Room.{charged, IsBelow, IsRoomy}

abbrev pub context_of : World → Context
context_of w = record { names = w.names; theory = theory_of w.sig }

-- the environment with this base
abbrev pub with_base : List Entry → Environment
with_base es = record { locals = no_locals; base = es }

-- the environment of the world's scope
abbrev pub environment_of : World → Environment
environment_of w = with_base (entries_of w.store (entries_in w.base.nodes.items w.scope.0))

abbrev pub left_in : World → Left
left_in w = left_of w.fuel w.fresh

-- the outcome, where this fuel and these counters are left, is this one
abbrev pub IsOutcome : Trees → ℕ → Fresh → code.Outcome → Outcome → Type 0
IsOutcome s fuel fresh (ends.Value v) (gives x left) = IsValue s v x × (fuel ≡ left.fuel) × (fresh ≡ left.fresh)
IsOutcome s fuel fresh (ends.Theorem p) (concludes x left) = IsSent s p.0 x × (fuel ≡ left.fuel) × (fresh ≡ left.fresh)
IsOutcome s fuel fresh (ends.Error why at) (fails place x left) = (at ≡ place) × IsRefusal s why x × (fuel ≡ left.fuel) × (fresh ≡ left.fresh)
IsOutcome s fuel fresh (ends.Exhausted at) (exhausts place made) = (at ≡ place) × (fuel ≡ 0) × (fresh ≡ made)
IsOutcome s fuel fresh o x = ⊥

-- a theorem is derivable from the asserted sentences under the hypotheses
abbrev pub IsDerivable : Theory → List Sent → List Sent → Trees → code.Outcome → Type 0
IsDerivable th asserted hyps s (ends.Theorem p) = Derives th asserted hyps (sent_at s.sents p.0)
IsDerivable th asserted hyps s (ends.Value v) = Unit {0}
IsDerivable th asserted hyps s (ends.Error why at) = Unit {0}
IsDerivable th asserted hyps s (ends.Exhausted at) = Unit {0}

-- The code's outcome is this one, whatever fuel is left; `made` are the counters after it, where `fresh` are those before.
abbrev pub IsAnswer : Trees → Fresh → Fresh → code.Outcome → (Left → Outcome) → Type 0
IsAnswer s fresh made o answer = (fuel : ℕ) → IsOutcome s fuel made o (answer (left_of fuel fresh))

-- the same between two worlds
abbrev pub IsAnswerIn : World → World → code.Outcome → (Left → Outcome) → Type 0
IsAnswerIn old new o answer = IsAnswer new.store old.fresh new.fresh o answer

-- the same, where the counters stay as they are
abbrev pub IsSteady : Trees → code.Outcome → (Left → Outcome) → Type 0
IsSteady s o answer = (fresh : Fresh) → IsAnswer s fresh fresh o answer

-- the world after an evaluation: its store has grown, its fuel and counters have moved, scopes were added and the scope may
-- be another, and all else is as it was
pub record Evaluates (old new : World) : Type 0 where
  pub grows : Grows old.store new.store
  pub names : new.names ≡ old.names
  pub signature : new.sig ≡ old.sig
  pub base : KeepsScopes old.base.nodes.items new.base.nodes.items
  pub phrases : new.phrases ≡ old.phrases

-- the world after what one step does, besides its fuel
pub record Passes (old new : World) : Type 0 where
  pub world : Evaluates old new
  pub fuel : new.fuel ≡ old.fuel
  pub few : IsBelow new.fresh (charged 1 old.fresh)

-- the same in one scope
pub record Works (old new : World) : Type 0 where
  pub world : Evaluates old new
  pub scope : new.scope ≡ old.scope
  pub fuel : new.fuel ≡ old.fuel
  pub few : IsBelow new.fresh (charged 1 old.fresh)

-- the same, where no fresh name is taken
pub record Rests (old new : World) : Type 0 where
  pub world : Evaluates old new
  pub scope : new.scope ≡ old.scope
  pub fuel : new.fuel ≡ old.fuel
  pub fresh : new.fresh ≡ old.fresh

-- there is room for the names of one step more than the fuel allows: one whose fuel is spent
abbrev pub HasRoom : World → Type 0
HasRoom w = IsRoomy (w.fuel + 1) w.fresh
