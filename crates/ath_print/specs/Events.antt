-- What a directive does that is told: an event, with sentences as trees.
use Rattle.std.specs.Prelude.{ℕ, List, Bool, true, false}
use Rattle.ath_sorts.specs.declared.sorts.Sym.{Sym}
use Rattle.ath_sorts.specs.declared.sorts.Sort.{Sort}
use Rattle.ath_syntax.specs.declared.place.Pos.{Pos}
use Rattle.ath_trees.specs.Tree.{Term, Sent}
use Rattle.ath_env.specs.Values.{Value}
use Rattle.ath_print.specs.declared.fault.FaultKind.{FaultKind}

pub data Argument : Type 0 where
  sentence_named : Sent → Argument
  term_named : Term → Argument
  sort_named : Sort → Argument
  -- a sort variable, by its name as it is written
  variable_named : Sym → Argument
  name_named : Sym → Argument
  number_named : ℕ → Argument

-- why a directive or a text is refused: the kind of its fault, and what the fault names
pub record Refusal : Type 0 where
  pub kind : FaultKind
  pub args : List Argument

pub data Event : Type 0 where
  -- a domain
  domain_added : Sym → Event
  -- symbols
  symbols_added : List Sym → Event
  asserted : Sent → Event
  proved : Sent → Event
  shown : Value → Event
  refused : Pos → Refusal → Event
  -- no fuel is left for the phrase at this place
  exhausted : Pos → Event

-- What an event is to a run, whatever else it tells.
pub data Role : Type 0 where
  -- a sentence is asserted
  an_assertion : Sent → Role
  -- a theorem is concluded
  a_theorem : Sent → Role
  -- a directive or a text is refused
  a_refusal : Role
  -- the fuel is at its end
  an_end : Role
  -- it only tells
  a_note : Role

abbrev pub role_of : Event → Role
role_of (domain_added n) = a_note
role_of (symbols_added ns) = a_note
role_of (asserted p) = an_assertion p
role_of (proved p) = a_theorem p
role_of (shown v) = a_note
role_of (refused at why) = a_refusal
role_of (exhausted at) = an_end

abbrev pub is_theorem_role : Role → Bool
is_theorem_role (a_theorem p) = true
is_theorem_role _ = false

abbrev pub is_refusal_role : Role → Bool
is_refusal_role a_refusal = true
is_refusal_role _ = false

abbrev pub is_end_role : Role → Bool
is_end_role an_end = true
is_end_role _ = false

abbrev pub is_theorem : Event → Bool
is_theorem e = is_theorem_role (role_of e)

abbrev pub is_refused : Event → Bool
is_refused e = is_refusal_role (role_of e)

abbrev pub is_exhausted : Event → Bool
is_exhausted e = is_end_role (role_of e)
