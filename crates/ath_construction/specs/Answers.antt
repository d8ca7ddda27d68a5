-- What the code's answers to constructions stand for. Where memory is wanted an answer says nothing.
use Rattle.std.specs.Prelude.{◌≡◌, Result, Ok, Err}
use Rattle.ath_sorts.specs.Signature.{Signature}
use Rattle.ath_trees.specs.declared.node.TermId.{TermId}
use Rattle.ath_trees.specs.declared.node.SentId.{SentId}
use Rattle.ath_trees.specs.Tree.{Term, Sent}
use Rattle.ath_trees.specs.SortsIn.{sort_in}
use Rattle.ath_terms.specs.declared.measure.BuildError.{BuildError}
use Rattle.ath_terms.specs.declared.measure.BuildError.TheVariants.{SortClash, ArgCount, NotBoolean, TooLarge, TooDeep, SortTooLarge, Memory}
use Rattle.ath_construction.specs.Construction.{counts, not_boolean, clash, sort_above, nodes_above, levels_above, Built, builds, refuses}
use Rattle.ath_terms.specs.Trees.{Trees, IsTerm, IsTermOf, IsSent}

-- the error is the refusal; a term in it stands for that of the refusal
abbrev pub IsRefused : {T : Type 0} → Trees → Built T → BuildError → Type 0
IsRefused s b (SortClash l r) = b ≡ refuses (clash (l, r))
IsRefused s b (ArgCount want given) = b ≡ refuses (counts want given)
IsRefused s b (NotBoolean t) = (x : Term) × (b ≡ refuses (not_boolean x)) × IsTerm s t.0 x
IsRefused s b (TooLarge n) = b ≡ refuses (nodes_above n)
IsRefused s b (TooDeep n) = b ≡ refuses (levels_above n)
IsRefused s b SortTooLarge = b ≡ refuses sort_above
IsRefused s b Memory = Unit {0}

-- the id of the term that is built, with its sort
abbrev pub IsTermBuilt : Signature → Trees → Built Term → Result TermId BuildError → Type 0
IsTermBuilt sig s b (Ok t) = (x : Term) × (b ≡ builds x) × IsTermOf s t.0 x (sort_in sig x)
IsTermBuilt sig s b (Err e) = IsRefused s b e

abbrev pub IsSentBuilt : Trees → Built Sent → Result SentId BuildError → Type 0
IsSentBuilt s b (Ok p) = (x : Sent) × (b ≡ builds x) × IsSent s p.0 x
IsSentBuilt s b (Err e) = IsRefused s b e
