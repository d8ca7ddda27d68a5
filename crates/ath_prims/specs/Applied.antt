-- What a method makes of its arguments, by its row. Refusals come in this order: the number of arguments; for each argument
-- from the left that it is no sentence, then that it hasn't the row's shape; for each that has to hold, from the left, that it
-- doesn't. Parts are compared up to the names and indices of bound variables; the earlier one stands in the conclusion.
use Rattle.std.specs.Prelude.{ℕ, suc, Bool, true, false, not, ◌&&◌, ◌==◌, List, [], ◌∷◌, length, Option, Some, None, option_and_then, unwrap_or, if◌then◌else◌}
use Rattle.ath_trees.specs.declared.node.Binary.{Binary}
use Rattle.ath_trees.specs.Tree.{Sent, negated, joined}
use Rattle.ath_trees.specs.Instance.{is_alpha_equal, same_binary}
use Rattle.ath_calculus.specs.Derives.{truth, falsity}
use Rattle.ath_prims.specs.declared.method.Method.{Method}
use Rattle.ath_prims.specs.declared.schema.Part.{Part}
use Rattle.ath_prims.specs.declared.schema.Part.TheVariants.{A, B, C}
use Rattle.ath_prims.specs.declared.schema.Shape.{Shape}
use Rattle.ath_prims.specs.declared.schema.Shape.TheVariants.{Any, Not, NotNot, Joined}
use Rattle.ath_prims.specs.declared.schema.Premise.{Premise}
use Rattle.ath_prims.specs.declared.schema.Conclusion.{Conclusion}
use Rattle.ath_prims.specs.declared.schema.Conclusion.TheVariants.{Bare, Built, True, False}
use Rattle.ath_prims.specs.Schemata.{Row, row}

-- an argument: the sentence that it is, where it is one, and whether that holds
pub record Argument : Type 0 where
  pub sentence : Option Sent
  pub holds : Bool

-- the parts that are found so far
pub record Parts : Type 0 where
  pub a : Option Sent
  pub b : Option Sent
  pub c : Option Sent

abbrev pub no_parts : Parts
no_parts = record { a = None; b = None; c = None }

abbrev pub found : Part → Parts → Option Sent
found A e = e.a
found B e = e.b
found C e = e.c

abbrev pub with_part : Part → Sent → Parts → Parts
with_part A p e = record e { a = Some p }
with_part B p e = record e { b = Some p }
with_part C p e = record e { c = Some p }

-- a part that was found before has to be alpha-equal, and stays as it was
abbrev pub noted : Option Sent → Part → Sent → Parts → Option Parts
noted None m p e = Some (with_part m p e)
noted (Some q) m p e = if is_alpha_equal q p then Some e else None

abbrev pub bound_to : Part → Sent → Parts → Option Parts
bound_to m p e = noted (found m e) m p e

-- the sentence that is negated, and the two that a connective joins
abbrev pub negand : Sent → Option Sent
negand (negated p) = Some p
negand p = None

abbrev pub sides : Binary → Sent → Option (Sent × Sent)
sides k (joined l p q) = if same_binary k l then Some (p, q) else None
sides k p = None

-- the sentence has the shape
abbrev pub fits : Shape → Sent → Parts → Option Parts
fits (Any m) p e = bound_to m p e
fits (Not m) p e = option_and_then (λ q. bound_to m q e) (negand p)
fits (NotNot m) p e = option_and_then (λ q. bound_to m q e) (option_and_then negand (negand p))
fits (Joined k m n) p e = option_and_then (λ s. option_and_then (bound_to n s.1) (bound_to m s.0 e)) (sides k p)

-- whether the arguments have their shapes, or the first that is no sentence or has another shape, by its number
pub data Fitted : Type 0 where
  all_fit : Parts → Fitted
  no_sentence : ℕ → Fitted
  no_shape : ℕ → Fitted

abbrev pub fitted_on : ℕ → Option Parts → (Parts → Fitted) → Fitted
fitted_on i None go = no_shape i
fitted_on i (Some e) go = go e

abbrev pub fitted_by : ℕ → Premise → Option Sent → Parts → (Parts → Fitted) → Fitted
fitted_by i r None e go = no_sentence i
fitted_by i r (Some p) e go = fitted_on i (fits r.shape p e) go

-- the arguments from this number on
abbrev pub fitted : ℕ → List Premise → List Argument → Parts → Fitted
fitted i (r ∷ rs) (x ∷ xs) e = fitted_by i r x.sentence e (fitted (suc i) rs xs)
fitted i rs xs e = all_fit e

-- the first argument that has to hold and doesn't
abbrev pub missing : List Premise → List Argument → Option Sent
missing (r ∷ rs) (x ∷ xs) = if r.must_hold && not x.holds then x.sentence else missing rs xs
missing rs xs = None

-- a part that no argument has, of which no row has any, would be `true`
abbrev pub part : Part → Parts → Sent
part m e = unwrap_or (found m e) truth

abbrev pub concluded : Conclusion → Parts → Sent
concluded (Bare m) e = part m e
concluded (Built k m n) e = joined k (part m e) (part n e)
concluded True e = truth
concluded False e = falsity

-- what comes of a call; what is concluded has yet to be within the limits
pub data Answer : Type 0 where
  -- the number of arguments that is wanted, and the given one
  miscounted : ℕ → ℕ → Answer
  wrong_kind : ℕ → Answer
  wrong_shape : ℕ → Answer
  not_in_base : Sent → Answer
  concludes : Sent → Answer

abbrev pub if_none_missing : Option Sent → Sent → Answer
if_none_missing (Some p) q = not_in_base p
if_none_missing None q = concludes q

abbrev pub answered : Row → List Argument → Fitted → Answer
answered r xs (no_sentence i) = wrong_kind i
answered r xs (no_shape i) = wrong_shape i
answered r xs (all_fit e) = if_none_missing (missing r.premises xs) (concluded r.conclusion e)

abbrev pub by_row : Row → List Argument → Answer
by_row r xs = if length r.premises == length xs then answered r xs (fitted 1 r.premises xs no_parts) else miscounted (length r.premises) (length xs)

abbrev pub applied : Method → List Argument → Answer
applied m xs = by_row (row m) xs
