-- What holds of the state of a run at every moment, and so of the theorems of each directive.
use Rattle.std.specs.Prelude.{◌≡◌, List, [], ◌∷◌, ◌++◌, Some}
use Rattle.std.specs.List.{AllByRecursion}
use Rattle.ath_sorts.specs.Signature.{arity_of}
use Rattle.ath_sorts.specs.Validity.{IsValid}
use Rattle.ath_trees.specs.Tree.{Sent}
use Rattle.ath_calculus.specs.Derives.{AreDerivable}
use Rattle.ath_calculus.specs.Theory.{theory_of}
use Rattle.ath_base.specs.declared.entry.Origin.{Origin}
use Rattle.ath_base.specs.declared.entry.Origin.TheVariants.{Asserted, Hypothesis, Concluded}
use Rattle.ath_base.specs.Base.{Entry, sentences}
use Rattle.ath_print.specs.Events.{Event}
use Rattle.ath_session.specs.State.{State}
use Rattle.ath_session.specs.Theorems.{IsJustified}

abbrev pub joined_as : Origin → Sent → List Sent → List Sent
joined_as Asserted p ps = ps ++ p ∷ []
joined_as Hypothesis p ps = ps
joined_as Concluded p ps = ps

-- the asserted sentences of a base, the oldest first
abbrev pub asserted_in : List Entry → List Sent
asserted_in [] = []
asserted_in (e ∷ es) = joined_as e.origin e.sentence (asserted_in es)

-- between a state and these asserted sentences: what is declared is valid, and each sentence of the base is derivable
pub record IsSoundFor (ps : List Sent) (st : State) : Type 0 where
  pub valid : IsValid st.signature
  pub has_boolean : arity_of st.signature (record { 0 = 0 }) ≡ Some 0
  pub base : AreDerivable (theory_of st.signature) ps [] (sentences st.base)

abbrev pub IsSound : State → Type 0
IsSound st = IsSoundFor (asserted_in st.base) st

-- each theorem among these events is derivable, under no hypotheses, from the asserted sentences of the state before them,
-- in the signature of that state
abbrev pub AreFollowing : State → List Event → Type 0
AreFollowing st es = AllByRecursion (IsJustified st.signature (asserted_in st.base)) es
