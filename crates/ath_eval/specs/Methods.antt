-- The primitive methods. Refusals come in this order: the number of arguments; for each argument from the left its kind,
-- then its shape; for each that must hold, from the left, that it doesn't.
use Rattle.std.specs.Prelude.{ℕ, ◌==◌, List, [], ◌∷◌, Option, Some, None, if◌then◌else◌}
use Rattle.ath_syntax.specs.declared.place.Pos.{Pos}
use Rattle.ath_trees.specs.declared.node.Binary.TheVariants.{And, Or, If, Iff}
use Rattle.ath_trees.specs.Tree.{Sent, atom, equal, negated, joined, bound}
use Rattle.ath_trees.specs.Instance.{is_alpha_equal}
use Rattle.ath_env.specs.Values.{Value, a_term, a_sentence, a_symbol, a_connective, a_quantifier, a_back, a_method, sentence_of}
use Rattle.ath_print.specs.declared.fault.FaultKind.TheVariants.{WrongShape, NotInBase, NotMethod}
use Rattle.ath_print.specs.Events.{sentence_named, number_named}
use Rattle.ath_base.specs.Base.{Entry, holds}
use Rattle.ath_eval.specs.Outcomes.{Context, Environment, Left, Outcome, Evaluator, concludes, fails, refusal}
use Rattle.ath_eval.specs.Applying.{miscounted, wrong_kind}

abbrev pub wrong_shape : ℕ → Pos → Left → Outcome
wrong_shape i at = fails at (refusal WrongShape (number_named i ∷ []))

abbrev pub not_in_base : Sent → Pos → Left → Outcome
not_in_base p at = fails at (refusal NotInBase (sentence_named p ∷ []))

-- goes on where the base holds the sentence
abbrev pub if_held : Option Entry → Sent → (Left → Outcome) → Pos → Left → Outcome
if_held (Some e) p go at = go
if_held None p go at = not_in_base p at

abbrev pub claim : List Entry → Option Sent → Pos → Left → Outcome
claim base None at = wrong_kind 1 at
claim base (Some p) at = if_held (holds base p) p (concludes p) at

-- modus ponens of `(if a b)` and `a`, up to the names and indices of bound variables, gives `b`
abbrev pub detached : List Entry → Sent → Sent → Sent → Sent → Pos → Left → Outcome
detached base p a b q at =
    if is_alpha_equal q a
    then if_held (holds base p) p (if_held (holds base q) q (concludes b) at) at
    else wrong_shape 2 at

abbrev pub from_implication : List Entry → Sent → Sent → Sent → Option Sent → Pos → Left → Outcome
from_implication base p a b None = wrong_kind 2
from_implication base p a b (Some q) = detached base p a b q

-- the implication's shape is looked at before the other argument
abbrev pub modus_ponens : List Entry → Sent → Option Sent → Pos → Left → Outcome
modus_ponens base (joined If a b) q = from_implication base (joined If a b) a b q
modus_ponens base (joined And a b) q = wrong_shape 1
modus_ponens base (joined Or a b) q = wrong_shape 1
modus_ponens base (joined Iff a b) q = wrong_shape 1
modus_ponens base (atom t) q = wrong_shape 1
modus_ponens base (equal s t) q = wrong_shape 1
modus_ponens base (negated p) q = wrong_shape 1
modus_ponens base (bound k v p) q = wrong_shape 1

abbrev pub mp : List Entry → Option Sent → Option Sent → Pos → Left → Outcome
mp base None q = wrong_kind 1
mp base (Some p) q = modus_ponens base p q

abbrev pub claimed : List Entry → List Value → Pos → Left → Outcome
claimed base (v ∷ []) = claim base (sentence_of v)
claimed base vs = miscounted 1 vs

abbrev pub ponens : List Entry → List Value → Pos → Left → Outcome
ponens base (v ∷ w ∷ []) = mp base (sentence_of v) (sentence_of w)
ponens base vs = miscounted 2 vs

-- `claim` is the method 0, and `mp` the method 1
abbrev pub by_method : Environment → ℕ → List Value → Pos → Left → Outcome
by_method env n vs = if n == 0 then claimed env.base vs else ponens env.base vs

-- a call with these arguments; that the head is no method is decided after them
abbrev pub called : Context → Evaluator → Environment → Value → List Value → Pos → Left → Outcome
called c rec env (a_method n) vs = by_method env n vs
called c rec env (a_term t r) vs = λ at. fails at (refusal NotMethod [])
called c rec env (a_sentence p) vs = λ at. fails at (refusal NotMethod [])
called c rec env (a_symbol f) vs = λ at. fails at (refusal NotMethod [])
called c rec env (a_connective k) vs = λ at. fails at (refusal NotMethod [])
called c rec env (a_quantifier q) vs = λ at. fails at (refusal NotMethod [])
called c rec env a_back vs = λ at. fails at (refusal NotMethod [])
