-- Applications to values: of a declared symbol, of `=`, of a connective, and of a quantifier. Refusals come in this order: the
-- number of arguments; the first argument of another kind; what the construction refuses.
use Rattle.std.specs.Prelude.{ℕ, suc, ◌+◌, ◌==◌, List, [], ◌∷◌, length, Option, Some, None, if◌then◌else◌}
use Rattle.ath_sorts.specs.declared.sorts.Sym.{Sym}
use Rattle.ath_sorts.specs.declared.signature.Symbol.{Symbol}
use Rattle.ath_sorts.specs.Signature.{Signature, symbol_of}
use Rattle.ath_syntax.specs.declared.place.Pos.{Pos}
use Rattle.ath_terms.specs.declared.fresh.Fresh.{Fresh}
use Rattle.ath_trees.specs.declared.node.Conn.{Conn}
use Rattle.ath_trees.specs.declared.node.Quant.{Quant}
use Rattle.ath_trees.specs.declared.node.Var.{Var}
use Rattle.ath_trees.specs.Tree.{Term, var, app, Sent}
use Rattle.ath_trees.specs.SortsIn.{sort_in}
use Rattle.ath_construction.specs.Construction.{Built, builds, refuses, made_app, made_equation, made_atom, made_connective, made_quantifier, wanted, takes}
use Rattle.ath_env.specs.Values.{Value, a_term, a_sentence, a_symbol, a_connective, a_quantifier, a_back, a_method, term_of}
use Rattle.ath_print.specs.declared.fault.FaultKind.TheVariants.{ArgCount, WrongKind, NotApplicable}
use Rattle.ath_print.specs.Events.{number_named}
use Rattle.ath_eval.specs.Outcomes.{Context, Environment, Left, Outcome, Evaluator, gives, fails, refusal}
use Rattle.ath_eval.specs.Building.{told}

-- this many arguments were wanted, and that many were given
abbrev pub miscounted : ℕ → List Value → Pos → Left → Outcome
miscounted want vs at = fails at (refusal ArgCount (number_named want ∷ number_named (length vs) ∷ []))

abbrev pub wrong_kind : ℕ → Pos → Left → Outcome
wrong_kind i at = fails at (refusal WrongKind (number_named i ∷ []))

-- a term that is built, with its sort
abbrev pub gives_term : Signature → Built Term → Pos → Left → Outcome
gives_term sig (builds t) at = gives (a_term t (sort_in sig t))
gives_term sig (refuses why) at = fails at (told why)

abbrev pub gives_sentence : Built Sent → Pos → Left → Outcome
gives_sentence (builds p) at = gives (a_sentence p)
gives_sentence (refuses why) at = fails at (told why)

-- what the values are, or the number of the first that is of another kind
pub data Kinds (T : Type 0) : Type 0 where
  all_are : List T → Kinds T
  wrong_at : ℕ → Kinds T

abbrev pub and_kind : {T : Type 0} → ℕ → Option T → Kinds T → Kinds T
and_kind i None others = wrong_at i
and_kind i (Some x) (all_are xs) = all_are (x ∷ xs)
and_kind i (Some x) (wrong_at j) = wrong_at j

abbrev pub kinds_of : {T : Type 0} → (Value → Option T) → ℕ → List Value → Kinds T
kinds_of f i [] = all_are []
kinds_of f i (v ∷ vs) = and_kind i (f v) (kinds_of f (suc i) vs)

-- ---- a declared symbol
-- the counters after a symbol's parameters have each taken a made sort variable
abbrev pub after_params : Symbol → Fresh → Fresh
after_params d fresh = record fresh { sort = fresh.sort + length d.params }

abbrev pub symbol_to : Signature → Symbol → Kinds Term → Pos → Left → Outcome
symbol_to sig d (wrong_at i) at left = wrong_kind i at left
symbol_to sig d (all_are ts) at left = gives_term sig (made_app sig left.fresh.sort d ts) at (record left { fresh = after_params d left.fresh })

abbrev pub symbol_applied : Signature → Symbol → List Value → Pos → Left → Outcome
symbol_applied sig d vs =
    if length d.args == length vs
    then symbol_to sig d (kinds_of term_of 1 vs)
    else miscounted (length d.args) vs

-- ---- an equation
abbrev pub equation_to : Signature → Option Term → Option Term → Pos → Left → Outcome
equation_to sig None t = wrong_kind 1
equation_to sig (Some s) None = wrong_kind 2
equation_to sig (Some s) (Some t) = gives_sentence (made_equation sig s t)

abbrev pub equated : Signature → List Value → Pos → Left → Outcome
equated sig (v ∷ w ∷ []) = equation_to sig (term_of v) (term_of w)
equated sig vs = miscounted 2 vs

-- ---- a connective: its parts are terms and sentences, and each term is made an atom first, from the left
pub data Part : Type 0 where
  term_part : Term → Part
  sentence_part : Sent → Part

abbrev pub part_of : Value → Option Part
part_of (a_term t r) = Some (term_part t)
part_of (a_sentence p) = Some (sentence_part p)
part_of (a_symbol f) = None
part_of (a_connective c) = None
part_of (a_quantifier q) = None
part_of a_back = None
part_of (a_method n) = None

abbrev pub sentence_made : Signature → Part → Built Sent
sentence_made sig (term_part t) = made_atom sig t
sentence_made sig (sentence_part p) = builds p

abbrev pub and_sentence : Built Sent → Built (List Sent) → Built (List Sent)
and_sentence (refuses why) others = refuses why
and_sentence (builds p) (builds ps) = builds (p ∷ ps)
and_sentence (builds p) (refuses why) = refuses why

-- the first refusal is that of them all
abbrev pub sentences_made : Signature → List Part → Built (List Sent)
sentences_made sig [] = builds []
sentences_made sig (x ∷ xs) = and_sentence (sentence_made sig x) (sentences_made sig xs)

abbrev pub connective_of : Signature → Conn → Built (List Sent) → Built Sent
connective_of sig c (refuses why) = refuses why
connective_of sig c (builds ps) = made_connective sig c ps

abbrev pub connective_to : Signature → Conn → Kinds Part → Pos → Left → Outcome
connective_to sig c (wrong_at i) = wrong_kind i
connective_to sig c (all_are xs) = gives_sentence (connective_of sig c (sentences_made sig xs))

abbrev pub connective_applied : Signature → Conn → List Value → Pos → Left → Outcome
connective_applied sig c vs = if takes c (length vs) then connective_to sig c (kinds_of part_of 1 vs) else miscounted (wanted c) vs

-- ---- a quantifier: its arguments but the last are variables, at the sorts that they have; the last is what they bind
abbrev pub variable_term : Option Term → Option Var
variable_term None = None
variable_term (Some (var v)) = Some v
variable_term (Some (app f sorts args)) = None

-- the variable that a value is, where it is one
abbrev pub variable_in : Value → Option Var
variable_in v = variable_term (term_of v)

-- of a value and those after it all but the last one, and the last one
abbrev pub but_last : Value → List Value → List Value
but_last v [] = []
but_last v (w ∷ vs) = v ∷ but_last w vs

abbrev pub the_last : Value → List Value → Value
the_last v [] = v
the_last v (w ∷ vs) = the_last w vs

abbrev pub quantified : Signature → Quant → Var → Built Sent → Built Sent
quantified sig q v (refuses why) = refuses why
quantified sig q v (builds p) = made_quantifier sig q v p

-- from the last variable outward, a construction for each
abbrev pub quantified_over : Signature → Quant → List Var → Built Sent → Built Sent
quantified_over sig q [] body = body
quantified_over sig q (v ∷ vs) body = quantified sig q v (quantified_over sig q vs body)

-- n is the number of the last argument, whose term is made an atom before anything is bound
abbrev pub quantifier_to : Signature → Quant → ℕ → Kinds Var → Option Part → Pos → Left → Outcome
quantifier_to sig q n (wrong_at i) x = wrong_kind i
quantifier_to sig q n (all_are vs) None = wrong_kind n
quantifier_to sig q n (all_are vs) (Some x) = gives_sentence (quantified_over sig q vs (sentence_made sig x))

abbrev pub quantifier_applied : Signature → Quant → List Value → Pos → Left → Outcome
quantifier_applied sig q (v ∷ w ∷ vs) =
    quantifier_to sig q (length (v ∷ w ∷ vs)) (kinds_of variable_in 1 (but_last v (w ∷ vs))) (part_of (the_last w vs))
quantifier_applied sig q vs = miscounted 2 vs

-- ---- any head
abbrev pub not_applicable : Pos → Left → Outcome
not_applicable at = fails at (refusal NotApplicable [])

-- a symbol that isn't declared is `=`
abbrev pub symbol_or_equation : Signature → Option Symbol → List Value → Pos → Left → Outcome
symbol_or_equation sig (Some d) vs = symbol_applied sig d vs
symbol_or_equation sig None vs = equated sig vs

-- a term or a sentence with no arguments is itself
abbrev pub itself : Value → List Value → Pos → Left → Outcome
itself v [] at = gives v
itself v (w ∷ ws) at = not_applicable at

-- what evaluates a body, and the environment, are there for procedures
abbrev pub applied : Context → Evaluator → Environment → Value → List Value → Pos → Left → Outcome
applied c rec env (a_symbol f) vs = symbol_or_equation c.theory.signature (symbol_of c.theory.signature f) vs
applied c rec env (a_connective k) vs = connective_applied c.theory.signature k vs
applied c rec env (a_term t r) vs = itself (a_term t r) vs
applied c rec env (a_sentence p) vs = itself (a_sentence p) vs
applied c rec env (a_quantifier q) vs = quantifier_applied c.theory.signature q vs
applied c rec env a_back vs = not_applicable
applied c rec env (a_method n) vs = not_applicable

-- ---- a name: a symbol without arguments is applied to none
abbrev pub symbol_named : Signature → Sym → Option Symbol → Pos → Left → Outcome
symbol_named sig f None at = gives (a_symbol f)
symbol_named sig f (Some d) at = if length d.args == 0 then symbol_applied sig d [] at else gives (a_symbol f)

abbrev pub value_named : Context → Value → Pos → Left → Outcome
value_named c (a_symbol f) at = symbol_named c.theory.signature f (symbol_of c.theory.signature f) at
value_named c v at = gives v
