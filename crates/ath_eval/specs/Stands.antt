-- What the code's answers stand for.
use Rattle.std.specs.Prelude.{◌≡◌, ◌<◌, List, length, map, Option, Some, None, Result, Ok, Err, Vec}
use Rattle.std.specs.List.{All}
use Rattle.std.specs.declared.alloc.Global.{Global}
use Rattle.ath_sorts.specs.declared.sorts.Sort.{Sort}
use Rattle.ath_sorts.specs.declared.signature.SigError.{SigError}
use Rattle.ath_sorts.specs.Signature.{Signature}
use Rattle.ath_syntax.specs.declared.node.SortText.{SortText}
use Rattle.ath_declarations.specs.Outcomes.{MatchOutcome}
use Rattle.ath_declarations.specs.Texts.{meaning}
use Rattle.ath_trees.specs.declared.node.SentId.{SentId}
use Rattle.ath_trees.specs.Tree.{Term, Sent}
use Rattle.ath_construction.specs.Answers.{IsRefused}
use Rattle.ath_construction.specs.Construction.{Built, builds, Unbuilt, counts, not_boolean, clash, sort_above, nodes_above, levels_above}
use Rattle.ath_terms.specs.Trees.{Trees, sent_at, IsTerm}
use Rattle.ath_terms.specs.declared.measure.BuildError.{BuildError}
use Rattle.ath_terms.specs.declared.measure.BuildError.TheVariants.{SortClash, ArgCount, NotBoolean, TooLarge, TooDeep, SortTooLarge, Memory}

-- the code's error is this refusal of a construction; want of memory is none
abbrev pub IsWhy : Trees → BuildError → Unbuilt → Type 0
IsWhy s (SortClash l r) why = why ≡ clash (l, r)
IsWhy s (ArgCount want given) why = why ≡ counts want given
IsWhy s (NotBoolean t) why = (x : Term) × (why ≡ not_boolean x) × IsTerm s t.0 x
IsWhy s (TooLarge n) why = why ≡ nodes_above n
IsWhy s (TooDeep n) why = why ≡ levels_above n
IsWhy s SortTooLarge why = why ≡ sort_above
IsWhy s Memory why = ⊥

-- the sentences that are built have these numbers
abbrev pub AreSentsIn : Trees → Built (List Sent) → List SentId → Type 0
AreSentsIn s b ids = (b ≡ builds (map (λ p. sent_at s.sents p.0) ids)) × All (λ p. p.0 < length s.sents) ids

abbrev pub AreSentsBuilt : Trees → Built (List Sent) → Result (Vec SentId Global) BuildError → Type 0
AreSentsBuilt s b (Ok ids) = AreSentsIn s b ids.items
AreSentsBuilt s b (Err e) = IsRefused s b e

-- the code's answer to a text of a sort
abbrev pub IsMeant : Signature → SortText → Result Sort SigError → Type 0
IsMeant sig text r = MatchOutcome (meaning sig text) r

-- the same, where a text may be written
abbrev pub AreMeant : Signature → Option SortText → Option (Result Sort SigError) → Type 0
AreMeant sig None None = Unit {0}
AreMeant sig (Some text) (Some r) = IsMeant sig text r
AreMeant sig None (Some r) = ⊥
AreMeant sig (Some text) None = ⊥
