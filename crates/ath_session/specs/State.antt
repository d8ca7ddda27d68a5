-- The state of a run.
use Rattle.std.specs.Prelude.{ℕ, List, [], ◌∷◌}
use Rattle.ath_sorts.specs.Signature.{Signature, initial}
use Rattle.ath_names.specs.Names.{first_names}
use Rattle.ath_terms.specs.declared.fresh.Fresh.{Fresh}
use Rattle.ath_trees.specs.Tree.{Sent}
use Rattle.ath_calculus.specs.Theory.{theory_of}
use Rattle.ath_base.specs.declared.entry.Origin.{Origin}
use Rattle.ath_base.specs.Base.{Entry}
use Rattle.ath_eval.specs.Outcomes.{Context, Environment, no_locals, Left}

-- the table of names, what is declared, the assumption base with its newest entry first, the steps that are left, and the
-- counters of fresh names
pub record State : Type 0 where
  pub names : List (List ℕ)
  pub signature : Signature
  pub base : List Entry
  pub fuel : ℕ
  pub fresh : Fresh

-- the counters begin with 1
abbrev pub first_state : ℕ → State
first_state steps = record { names = first_names; signature = initial; base = []; fuel = steps; fresh = record { var = 1; sort = 1 } }

abbrev pub context : State → Context
context st = record { names = st.names; theory = theory_of st.signature }

abbrev pub environment : State → Environment
environment st = record { locals = no_locals; base = st.base }

abbrev pub left : State → Left
left st = record { fuel = st.fuel; fresh = st.fresh }

abbrev pub with_names : List (List ℕ) → State → State
with_names known st = record st { names = known }

-- what an evaluation leaves
abbrev pub with_left : State → Left → State
with_left st after = record st { fuel = after.fuel; fresh = after.fresh }

abbrev pub with_signature : State → Signature → State
with_signature st sig = record st { signature = sig }

-- a sentence joins the base, from this origin
abbrev pub joining : State → Origin → Sent → State
joining st how p = record st { base = record { sentence = p; origin = how } ∷ st.base }
