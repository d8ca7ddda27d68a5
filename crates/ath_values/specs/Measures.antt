-- What is said of a value that is made: its number stands for it, or it is above the limits.
use Rattle.std.specs.Prelude.{◌≡◌, ◌<◌, ◌≤◌, ℕ, ◌+◌, length, Result, Ok, Err}
use Rattle.std.specs.List.{All}
use Rattle.ath_trees.specs.declared.limits.TheConstants.{MOST_TERM_NODES, MOST_TERM_LEVELS, MOST_PARTS}
use Rattle.ath_trees.specs.Measure.{term_size, term_depth, sent_size, sent_depth}
use Rattle.ath_terms.specs.Trees.{Trees, term_at, sent_at}
use Rattle.ath_syntax.specs.Nodes.{Nodes}
use Rattle.ath_values.specs.declared.value.Value.{Value}
use Rattle.ath_values.specs.declared.value.Value.TheVariants as code
use Rattle.ath_values.specs.declared.value.ValueId.{ValueId}
use Rattle.ath_values.specs.declared.value.ValueError.{ValueError}
use Rattle.ath_values.specs.declared.value.ValueError.TheVariants.{TooLarge, TooDeep, Memory}
use Rattle.ath_values.specs.Nodes.{Stores, IsValueIn, listed_nodes, listed_levels}
use Rattle.ath_values.specs.Stands.{IsValue}
use Rattle.ath_values.specs.Values.{ValueTree, value_size, value_depth}

-- so many nodes and levels: within the limits, or refused by the first limit that is passed
abbrev pub IsMeasured : {A : Type 0} → (A → Type 0) → Result A ValueError → ℕ → ℕ → Type 0
IsMeasured P (Ok a) n d = P a × (n ≤ MOST_TERM_NODES) × (d ≤ MOST_TERM_LEVELS)
IsMeasured P (Err (TooLarge m)) n d = (MOST_TERM_NODES < n) × (m ≡ n)
IsMeasured P (Err (TooDeep m)) n d = (n ≤ MOST_TERM_NODES) × (MOST_TERM_LEVELS < d) × (m ≡ d)
IsMeasured P (Err Memory) n d = Unit {0}

-- the value is made exactly where it is within the limits
abbrev pub IsMade : Nodes → Trees → Stores → Result ValueId ValueError → ValueTree → Type 0
IsMade p s e r t = IsMeasured (λ i. IsValue p s e i t) r (value_size t) (value_depth t)

-- the numbers in a value are of the stores, and a list isn't longer than any that is read
abbrev pub AreWithin : Trees → Stores → Value → Type 0
AreWithin s e (code.Term t) = t.0 < length s.terms
AreWithin s e (code.Sent p) = p.0 < length s.sents
AreWithin s e (code.List is) = All (IsValueIn e) is × (length is ≤ MOST_PARTS)
AreWithin s e v = Unit {0}

-- the nodes and levels of a value
abbrev pub measured_nodes : Trees → Stores → Value → ℕ
measured_nodes s e (code.Term t) = term_size (term_at s.terms t.0)
measured_nodes s e (code.Sent p) = sent_size (sent_at s.sents p.0)
measured_nodes s e (code.List is) = 1 + listed_nodes e is
measured_nodes s e v = 1

abbrev pub measured_levels : Trees → Stores → Value → ℕ
measured_levels s e (code.Term t) = term_depth (term_at s.terms t.0)
measured_levels s e (code.Sent p) = sent_depth (sent_at s.sents p.0)
measured_levels s e (code.List is) = 1 + listed_levels e is
measured_levels s e v = 1
