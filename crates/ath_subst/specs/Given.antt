-- What substitution, other sorts and closing come to: a function that gives the tree, or why there is none. A sort above the
-- limits is told of other sorts alone, which change no number of nodes or levels; else too many nodes come before too many
-- levels, each with the number of the whole result.
use Rattle.std.specs.Prelude.{◌≡◌, ℕ, nat_lt, Result, Ok, Err, if◌then◌else◌}
use Rattle.ath_sorts.specs.declared.sorts.SVar.{SVar}
use Rattle.ath_sorts.specs.declared.sorts.Sort.{Sort}
use Rattle.ath_sorts.specs.Signature.{Signature}
use Rattle.ath_trees.specs.declared.limits.TheConstants.{MOST_TERM_NODES, MOST_TERM_LEVELS}
use Rattle.ath_trees.specs.declared.node.Quant.{Quant}
use Rattle.ath_trees.specs.declared.node.SentId.{SentId}
use Rattle.ath_trees.specs.declared.node.TermId.{TermId}
use Rattle.ath_trees.specs.declared.node.Var.{Var}
use Rattle.ath_trees.specs.Closing.{closed_over}
use Rattle.ath_trees.specs.Measure.{term_size, term_depth, sent_size, sent_depth}
use Rattle.ath_trees.specs.SortsIn.{has_small_sorts, sent_has_small_sorts}
use Rattle.ath_trees.specs.SortUnder.{sent_at_sorts}
use Rattle.ath_trees.specs.Substitution.{subst_term, subst_sent}
use Rattle.ath_trees.specs.Tree.{Term, Sent}
use Rattle.ath_trees.specs.Under.{term_under}
use Rattle.ath_terms.specs.Trees.{Trees, IsTerm, IsSent}
use Rattle.ath_subst.specs.declared.error.SubstError.{SubstError}
use Rattle.ath_subst.specs.declared.error.SubstError.TheVariants.{TooLarge, TooDeep, SortTooLarge, Memory}

pub data Given (T : Type 0) : Type 0 where
  gives : T → Given T
  nodes_above : ℕ → Given T
  levels_above : ℕ → Given T
  sort_above : Given T

-- a tree of so many nodes and levels
abbrev pub limited : {T : Type 0} → T → ℕ → ℕ → Given T
limited x nodes levels =
    if nat_lt MOST_TERM_NODES nodes
    then nodes_above nodes
    else if nat_lt MOST_TERM_LEVELS levels then levels_above levels else gives x

abbrev pub limited_term : Term → Given Term
limited_term t = limited t (term_size t) (term_depth t)

abbrev pub limited_sent : Sent → Given Sent
limited_sent p = limited p (sent_size p) (sent_depth p)

abbrev pub term_substituted : Var → Term → Term → Given Term
term_substituted x by t = limited_term (subst_term x by t)

abbrev pub sent_substituted : Var → Term → Sent → Given Sent
sent_substituted x by p = limited_sent (subst_sent x by p)

abbrev pub closing_given : Quant → Var → Sent → Given Sent
closing_given k x p = limited_sent (closed_over k x p)

abbrev pub term_moved : Signature → (SVar → Sort) → Term → Given Term
term_moved sig f t = if has_small_sorts sig (term_under f t) then gives (term_under f t) else sort_above

abbrev pub sent_moved : Signature → (SVar → Sort) → Sent → Given Sent
sent_moved sig f p = if sent_has_small_sorts sig (sent_at_sorts f p) then gives (sent_at_sorts f p) else sort_above

-- ---- the code's answers: where memory is wanted they say nothing
abbrev pub IsWhy : {T : Type 0} → Given T → SubstError → Type 0
IsWhy g (TooLarge n) = g ≡ nodes_above n
IsWhy g (TooDeep n) = g ≡ levels_above n
IsWhy g SortTooLarge = g ≡ sort_above
IsWhy g Memory = Unit {0}

abbrev pub IsTermGiven : Trees → Given Term → Result TermId SubstError → Type 0
IsTermGiven s g (Ok t) = (x : Term) × ((g ≡ gives x) × IsTerm s t.0 x)
IsTermGiven s g (Err e) = IsWhy g e

abbrev pub IsSentGiven : Trees → Given Sent → Result SentId SubstError → Type 0
IsSentGiven s g (Ok p) = (x : Sent) × ((g ≡ gives x) × IsSent s p.0 x)
IsSentGiven s g (Err e) = IsWhy g e
