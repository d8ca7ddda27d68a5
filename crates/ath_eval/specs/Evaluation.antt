-- The outcome of a phrase. A phrase takes one step of fuel, and stands one level deeper than the phrase whose part it is.
use Rattle.std.specs.Prelude.{ℕ, zero, suc, ◌+◌, [], ◌∷◌, Option, Some, None, Result, Ok, Err}
use Rattle.ath_sorts.specs.declared.sorts.Sym.{Sym}
use Rattle.ath_sorts.specs.declared.sorts.SVar.TheVariants.{Made}
use Rattle.ath_sorts.specs.declared.sorts.Sort.{Sort, Var}
use Rattle.ath_sorts.specs.declared.signature.SigError.{SigError}
use Rattle.ath_sorts.specs.declared.signature.SigError.TheVariants.{UnknownSort, Arity}
use Rattle.ath_syntax.specs.declared.place.Pos.{Pos}
use Rattle.ath_syntax.specs.Places.{place}
use Rattle.ath_syntax.specs.Tree.{Phrase, name_at, variable_at, string_at, list_at, ascribe_at, apply_at, call_at, lambda_at, method_at, let_at, letrec_at, match_at, check_at, try_at, seq_at, assume_at, absurd_at, pick_any_at, pick_witness_at, induct_at, cases_at, conclude_at}
use Rattle.ath_syntax.specs.declared.node.SortText.{SortText}
use Rattle.ath_declarations.specs.Texts.{meaning}
use Rattle.ath_construction.specs.Construction.{made_ascription}
use Rattle.ath_trees.specs.Tree.{Term, var}
use Rattle.ath_env.specs.Values.{Value, a_term, term_of}
use Rattle.ath_env.specs.LookUp.{looked_up}
use Rattle.ath_print.specs.declared.fault.FaultKind.TheVariants.{Unbound, TooNested, NotBuilt}
use Rattle.ath_print.specs.declared.fault.FaultKind.TheVariants as kind
use Rattle.ath_print.specs.Events.{Refusal, name_named}
use Rattle.ath_eval.specs.Outcomes.{Context, Environment, Left, Outcome, gives, fails, refusal, Evaluator, spending, and_then, each}
use Rattle.ath_eval.specs.Applying.{applied, value_named, wrong_kind, gives_term}
use Rattle.ath_eval.specs.Methods.{called}

-- a name that finds nothing is unbound
abbrev pub found : Context → Sym → Pos → Option Value → Left → Outcome
found c x at (Some v) = value_named c v at
found c x at None = fails at (refusal Unbound (name_named x ∷ []))

-- a variable of this sort
abbrev pub variable_of : Sym → ℕ → Sort → Left → Outcome
variable_of x k s = gives (a_term (var (record { name = x; index = k; sort = s })) s)

-- why a sort's text is refused
abbrev pub sort_refusal : SigError → Refusal
sort_refusal (UnknownSort n) = refusal kind.UnknownSort (name_named n ∷ [])
sort_refusal (Arity n) = refusal kind.Arity (name_named n ∷ [])
sort_refusal e = refusal kind.SortTooLarge []

-- goes on with the sort of a text
abbrev pub with_sort : Result Sort SigError → (Sort → Pos → Left → Outcome) → Pos → Left → Outcome
with_sort (Ok s) go at = go s at
with_sort (Err e) go at = fails at (sort_refusal e)

-- a variable that is written without a sort has the next made sort variable
abbrev pub variable : Context → Sym → ℕ → Option SortText → Pos → Left → Outcome
variable c x k None at left =
    variable_of x k (Var (Made left.fresh.sort)) (record left { fresh = record left.fresh { sort = left.fresh.sort + 1 } })
variable c x k (Some text) at left = with_sort (meaning c.theory.signature text) (λ s place. variable_of x k s) at left

-- a term with its sort made the text's
abbrev pub ascribed_to : Context → SortText → Option Term → Pos → Left → Outcome
ascribed_to c text None at = wrong_kind 1 at
ascribed_to c text (Some t) at = with_sort (meaning c.theory.signature text) (λ s place. gives_term c.theory.signature (made_ascription c.theory.signature t s) place) at

abbrev pub ascribed : Context → SortText → Value → Pos → Left → Outcome
ascribed c text v = ascribed_to c text (term_of v)

-- a form that isn't built yet
abbrev pub unbuilt : Pos → Left → Outcome
unbuilt at = fails at (refusal NotBuilt [])

-- the outcome of a form, where its parts are evaluated so: the head first, then the arguments from the left. An argument of a
-- call may be a deduction; one of an application is an expression
abbrev pub form : Context → Evaluator → Environment → Phrase → Left → Outcome
form c rec env (name_at p x) left = found c x p (looked_up c.names c.theory.signature x) left
form c rec env (variable_at p x k s) left = variable c x k s p left
form c rec env (ascribe_at p x s) left = and_then (rec env x left) (λ v. ascribed c s v p)
form c rec env (apply_at p f xs) left = and_then (rec env f left) (λ v. each rec env [] xs (λ after vs. applied c rec after v vs p))
form c rec env (call_at p f xs) left = and_then (rec env f left) (λ v. each rec env [] xs (λ after vs. called c rec after v vs p))
form c rec env (string_at p s) left = unbuilt p left
form c rec env (list_at p xs) left = unbuilt p left
form c rec env (lambda_at p xs x) left = unbuilt p left
form c rec env (method_at p xs x) left = unbuilt p left
form c rec env (let_at p bs x) left = unbuilt p left
form c rec env (letrec_at p bs x) left = unbuilt p left
form c rec env (match_at p x cs) left = unbuilt p left
form c rec env (check_at p bs x) left = unbuilt p left
form c rec env (try_at p xs) left = unbuilt p left
form c rec env (seq_at p xs) left = unbuilt p left
form c rec env (assume_at p n x y) left = unbuilt p left
form c rec env (absurd_at p n x y) left = unbuilt p left
form c rec env (pick_any_at p ns x) left = unbuilt p left
form c rec env (pick_witness_at p n x y) left = unbuilt p left
form c rec env (induct_at p x cs) left = unbuilt p left
form c rec env (cases_at p x cs) left = unbuilt p left
form c rec env (conclude_at p n x y) left = unbuilt p left

-- the outcome of a phrase where this many levels are left: with no fuel it is exhausted, else a step is taken, and then
-- the levels are looked at
abbrev pub evaluated : Context → ℕ → Evaluator
evaluated c zero env x left = spending left.fuel left.fresh (place x) (fails (place x) (refusal TooNested []))
evaluated c (suc levels) env x left = spending left.fuel left.fresh (place x) (form c (evaluated c levels) env x)

-- the most levels of evaluation
abbrev pub most_nested : ℕ
most_nested = 1000

-- the outcome of a directive's phrase
abbrev pub outcome_of : Context → Evaluator
outcome_of c = evaluated c most_nested
