-- How an evaluation ends, and how one goes on after a part.
use Rattle.std.specs.Prelude.{ℕ, zero, suc, List, [], ◌∷◌, ◌++◌}
use Rattle.ath_syntax.specs.declared.place.Pos.{Pos}
use Rattle.ath_syntax.specs.Tree.{Phrase, Phrases, no_phrases, more_phrases}
use Rattle.ath_trees.specs.Tree.{Sent}
use Rattle.ath_terms.specs.declared.fresh.Fresh.{Fresh}
use Rattle.ath_calculus.specs.Theory.{Theory}
use Rattle.ath_base.specs.Base.{Entry}
use Rattle.ath_base.specs.declared.entry.Origin.TheVariants.{Concluded}
use Rattle.ath_env.specs.Values.{Value, value_of}
use Rattle.ath_print.specs.declared.fault.FaultKind.{FaultKind}
use Rattle.ath_print.specs.Events.{Argument, Refusal}

-- what all parts of an evaluation read: the table of names, and what is declared
pub record Context : Type 0 where
  pub names : List (List ℕ)
  pub theory : Theory

-- what local forms bind; there are none yet
pub data Locals : Type 0 where
  no_locals : Locals

-- what a part reads of its own: what is bound where it stands, and its assumption base, the newest entry first
pub record Environment : Type 0 where
  pub locals : Locals
  pub base : List Entry

-- what is left: the steps, and the counters of fresh names
pub record Left : Type 0 where
  pub fuel : ℕ
  pub fresh : Fresh

-- Each with what is left. Where it is exhausted no fuel is.
pub data Outcome : Type 0 where
  -- the value of an expression
  gives : Value → Left → Outcome
  -- the conclusion of a deduction
  concludes : Sent → Left → Outcome
  -- an error, at the phrase that refuses
  fails : Pos → Refusal → Left → Outcome
  -- no fuel is left for the phrase at this place
  exhausts : Pos → Fresh → Outcome

abbrev pub refusal : FaultKind → List Argument → Refusal
refusal k named = record { kind = k; args = named }

-- what evaluates a part, in its environment
abbrev pub Evaluator : Type 0
Evaluator = Environment → Phrase → Left → Outcome

abbrev pub left_of : ℕ → Fresh → Left
left_of steps made = record { fuel = steps; fresh = made }

-- takes a step of the fuel and goes on; where none is left it is exhausted at this place
abbrev pub spending : ℕ → Fresh → Pos → (Left → Outcome) → Outcome
spending zero fresh at go = exhausts at fresh
spending (suc fuel) fresh at go = go (left_of fuel fresh)

-- goes on with the value of a part, which for a conclusion is that of its sentence; the first error or exhaustion is the
-- outcome
abbrev pub and_then : Outcome → (Value → Left → Outcome) → Outcome
and_then (gives v left) go = go v left
and_then (concludes p left) go = go (value_of p) left
and_then (fails at why left) go = fails at why left
and_then (exhausts at fresh) go = exhausts at fresh

-- the environment whose base has a conclusion more
abbrev pub concluding : Sent → Environment → Environment
concluding p env = record env { base = record { sentence = p; origin = Concluded } ∷ env.base }

-- goes on likewise, and with the environment for what comes after the part: the conclusion of a deduction joins its base
abbrev pub then_in : Environment → Outcome → (Environment → Value → Left → Outcome) → Outcome
then_in env (gives v left) go = go env v left
then_in env (concludes p left) go = go (concluding p env) (value_of p) left
then_in env (fails at why left) go = fails at why left
then_in env (exhausts at fresh) go = exhausts at fresh

-- the values of the parts from left to right, after those that are done, each part in the environment that the one before it
-- leaves; what is made of them has the environment that the last one leaves
abbrev pub each : Evaluator → Environment → List Value → Phrases → (Environment → List Value → Left → Outcome) → Left → Outcome
each rec env done no_phrases go left = go env done left
each rec env done (more_phrases x xs) go left = then_in env (rec env x left) (λ after v. each rec after (done ++ v ∷ []) xs go)
