-- The constructions by the user: each is a function that gives a tree, or why there is none. A construction unifies a list of
-- pairs of sorts, and its tree is under their least most general unifier: every sort in every part is replaced, and a binder is
-- renamed where another variable would else become its own. The pairs are those of the construction's own rule, and then for
-- each free variable of the parts, in the order in which they occur first, the sort of the first one of its name and index with
-- its own, where these two are different variables. A quantifier's own variable comes before those of its body. Refusals come
-- in this order: the number of parts; an atom whose term can't be Boolean; the first pair with which those before it lose their
-- unifier; a sort above the limits, of the unifier or of the tree; too many nodes; too many levels.
use Rattle.std.specs.Prelude.{ℕ, ◌+◌, ◌==◌, nat_le, nat_lt, Bool, List, [], ◌∷◌, ◌++◌, length, map, slice_index_or, zip, find, Option, Some, None, if◌then◌else◌}
use Rattle.ath_sorts.specs.declared.sorts.Sym.{Sym}
use Rattle.ath_sorts.specs.declared.sorts.SVar.{SVar}
use Rattle.ath_sorts.specs.declared.sorts.SVar.TheVariants.{Made}
use Rattle.ath_sorts.specs.declared.sorts.Sort.{Sort, Var}
use Rattle.ath_sorts.specs.declared.signature.Symbol.{Symbol}
use Rattle.ath_sorts.specs.Sorts.{image}
use Rattle.ath_sorts.specs.Signature.{Signature, at_sorts, boolean}
use Rattle.ath_unifiers.specs.Unified.{Unified, solved, clashes, too_large, unified}
use Rattle.ath_trees.specs.declared.limits.TheConstants.{MOST_TERM_NODES, MOST_TERM_LEVELS}
use Rattle.ath_trees.specs.declared.node.Var.{Var as Variable}
use Rattle.ath_trees.specs.declared.node.Conn.{Conn}
use Rattle.ath_trees.specs.declared.node.Binary.{Binary}
use Rattle.ath_trees.specs.declared.node.Quant.{Quant}
use Rattle.ath_trees.specs.declared.node.Conn.TheVariants.{Not, And, Or, If, Iff}
use Rattle.ath_trees.specs.Tree.{Term, app, listed, Sent, atom, equal, negated, joined, bound, binary_of}
use Rattle.ath_trees.specs.Measure.{term_size, term_depth, sent_size, sent_depth}
use Rattle.ath_trees.specs.SortsIn.{sort_in, has_small_sorts, sent_has_small_sorts}
use Rattle.ath_trees.specs.Variables.{is_namesake, with_term, with_terms, with_sent, with_sents}
use Rattle.ath_trees.specs.Under.{var_under, term_under}
use Rattle.ath_trees.specs.SortUnder.{sent_at_sorts}
use Rattle.ath_terms.specs.Blank.{blank}
use Rattle.ath_terms.specs.Limits.{Measure}

-- ---- the pairs
abbrev pub pair_after : Option Variable → Variable → List (Sort × Sort)
pair_after (Some first) v = (first.sort, v.sort) ∷ []
pair_after None v = []

-- a variable with the first of its name and index among those before it
abbrev pub pairs_from : List Variable → List Variable → List (Sort × Sort)
pairs_from before [] = []
pairs_from before (v ∷ vs) = pair_after (find (is_namesake v) before) v ++ pairs_from (before ++ v ∷ []) vs

abbrev pub variable_pairs : List Variable → List (Sort × Sort)
variable_pairs found = pairs_from [] found

-- ---- the plans: what is unified, and the tree by a unifier
pub record Plan (T : Type 0) : Type 0 where
  pub pairs : List (Sort × Sort)
  pub tree : (SVar → Sort) → T

-- the next made variables, one for each parameter
abbrev pub made_sorts : ℕ → List Sym → List Sort
made_sorts n [] = []
made_sorts n (p ∷ ps) = Var (Made n) ∷ made_sorts (n + 1) ps

-- each declared argument sort, at new made variables for the parameters, with the argument's sort
abbrev pub app_plan : Signature → ℕ → Symbol → List Term → Plan Term
app_plan sig n d args = record {
  pairs = zip (map (at_sorts d.params (made_sorts n d.params)) d.args) (map (sort_in sig) args) ++ variable_pairs (with_terms [] (listed args));
  tree = λ f. term_under f (app d.name (made_sorts n d.params) (listed args));
}

-- the left sort with the right sort
abbrev pub equation_plan : Signature → Term → Term → Plan Sent
equation_plan sig s t = record {
  pairs = (sort_in sig s, sort_in sig t) ∷ variable_pairs (with_term (with_term [] s) t);
  tree = λ f. equal (term_under f s) (term_under f t);
}

-- the term's sort with the other
abbrev pub ascription_plan : Signature → Term → Sort → Plan Term
ascription_plan sig t sort = record {
  pairs = (sort_in sig t, sort) ∷ variable_pairs (with_term [] t);
  tree = λ f. term_under f t;
}

-- the term's sort with Boolean
abbrev pub atom_plan : Signature → Term → Plan Sent
atom_plan sig t = record {
  pairs = (sort_in sig t, boolean) ∷ variable_pairs (with_term [] t);
  tree = λ f. atom (term_under f t);
}

-- grouped to the right
abbrev pub grouped : Binary → List Sent → Sent
grouped c [] = atom blank
grouped c (p ∷ []) = p
grouped c (p ∷ q ∷ ps) = joined c p (grouped c (q ∷ ps))

abbrev pub connected_by : Option Binary → List Sent → Sent
connected_by None [] = atom blank
connected_by None (p ∷ ps) = negated p
connected_by (Some c) ps = grouped c ps

abbrev pub connected : Conn → List Sent → Sent
connected c ps = connected_by (binary_of c) ps

-- `not` has one part, `if` and `iff` have two, and `and` and `or` two or more
abbrev pub takes : Conn → ℕ → Bool
takes Not n = n == 1
takes If n = n == 2
takes Iff n = n == 2
takes And n = nat_le 2 n
takes Or n = nat_le 2 n

-- the wanted number of parts
abbrev pub wanted : Conn → ℕ
wanted Not = 1
wanted c = 2

abbrev pub connective_plan : List Sent → Sent → Plan Sent
connective_plan parts whole = record {
  pairs = variable_pairs (with_sents [] parts);
  tree = λ f. sent_at_sorts f whole;
}

-- the variable comes first, and binds what has become its own
abbrev pub quantifier_plan : Quant → Variable → Sent → Plan Sent
quantifier_plan k v body = record {
  pairs = variable_pairs (with_sent (v ∷ []) body);
  tree = λ f. bound k (var_under f v) (sent_at_sorts f body);
}

-- ---- what a construction comes to
pub data Unbuilt : Type 0 where
  -- the wanted and the given number of arguments or parts
  counts : ℕ → ℕ → Unbuilt
  not_boolean : Term → Unbuilt
  clash : Sort × Sort → Unbuilt
  sort_above : Unbuilt
  nodes_above : ℕ → Unbuilt
  levels_above : ℕ → Unbuilt

pub data Built (T : Type 0) : Type 0 where
  builds : T → Built T
  refuses : Unbuilt → Built T

-- the measures of trees
abbrev pub term_measure : Signature → Term → Measure
term_measure sig t = record { small = has_small_sorts sig t; nodes = term_size t; levels = term_depth t }

abbrev pub sent_measure : Signature → Sent → Measure
sent_measure sig p = record { small = sent_has_small_sorts sig p; nodes = sent_size p; levels = sent_depth p }

-- a tree within the limits
abbrev pub within : {T : Type 0} → T → Measure → Built T
within x m =
    if m.small
    then (if nat_lt MOST_TERM_NODES m.nodes then refuses (nodes_above m.nodes)
    else if nat_lt MOST_TERM_LEVELS m.levels then refuses (levels_above m.levels)
    else builds x)
    else refuses sort_above

-- a clash shows the two sides of its pair, as they are listed
abbrev pub by_unifier : {T : Type 0} → Plan T → (T → Measure) → Unified → Built T
by_unifier p m (solved u) = within (p.tree (image u)) (m (p.tree (image u)))
by_unifier p m (clashes at) = refuses (clash (slice_index_or p.pairs at (boolean, boolean)))
by_unifier p m too_large = refuses sort_above

abbrev pub constructed : {T : Type 0} → Plan T → (T → Measure) → Built T
constructed p m = by_unifier p m (unified p.pairs)

-- an application of a symbol, whose sort arguments are the made sort variables from a number on
abbrev pub made_app : Signature → ℕ → Symbol → List Term → Built Term
made_app sig n d ts =
    if length d.args == length ts
    then constructed (app_plan sig n d ts) (term_measure sig)
    else refuses (counts (length d.args) (length ts))

abbrev pub made_equation : Signature → Term → Term → Built Sent
made_equation sig s t = constructed (equation_plan sig s t) (sent_measure sig)

abbrev pub made_ascription : Signature → Term → Sort → Built Term
made_ascription sig t sort = constructed (ascription_plan sig t sort) (term_measure sig)

-- a term whose sort alone can't be made Boolean is none
abbrev pub atom_by : Signature → Term → Unified → Built Sent
atom_by sig t (solved u) = constructed (atom_plan sig t) (sent_measure sig)
atom_by sig t (clashes at) = refuses (not_boolean t)
atom_by sig t too_large = constructed (atom_plan sig t) (sent_measure sig)

abbrev pub made_atom : Signature → Term → Built Sent
made_atom sig t = atom_by sig t (unified ((sort_in sig t, boolean) ∷ []))

abbrev pub made_connective : Signature → Conn → List Sent → Built Sent
made_connective sig c ps =
    if takes c (length ps)
    then constructed (connective_plan ps (connected c ps)) (sent_measure sig)
    else refuses (counts (wanted c) (length ps))

abbrev pub made_quantifier : Signature → Quant → Variable → Sent → Built Sent
made_quantifier sig k v body = constructed (quantifier_plan k v body) (sent_measure sig)
