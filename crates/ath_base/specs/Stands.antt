-- What the code's entries and scopes stand for.
use Rattle.std.specs.Prelude.{ℕ, suc, ◌≡◌, ◌<◌, ◌≤◌, ◌==◌, List, [], ◌∷◌, length, get_or, map, reverse, if◌then◌else◌}
use Rattle.std.specs.List.{All}
use Rattle.ath_terms.specs.Trees.{Trees, sent_at}
use Rattle.ath_base.specs.declared.base.Node.{Node}
use Rattle.ath_base.specs.declared.entry.Entry as code
use Rattle.ath_base.specs.Base.{Entry}

-- the entries of a scope, the newest first, where the newest node stands first: the scope 0 has none, and the scope n has
-- the entry of the n-th node and those of its parent
abbrev pub entries_among : List Node → ℕ → List code.Entry
entries_among [] k = []
entries_among (n ∷ older) k = if k == suc (length older) then n.entry ∷ entries_among older n.parent.0 else entries_among older k

-- the same, where the oldest node stands first
abbrev pub entries_in : List Node → ℕ → List code.Entry
entries_in ns k = entries_among (reverse ns) k

abbrev pub entry_at : Trees → code.Entry → Entry
entry_at s e = record { sentence = sent_at s.sents e.sentence.0; origin = e.origin }

abbrev pub entries_of : Trees → List code.Entry → List Entry
entries_of s es = map (entry_at s) es

-- the sentence is a number of the store
abbrev pub IsStored : Trees → code.Entry → Type 0
IsStored s e = e.sentence.0 < length s.sents

abbrev pub AreStored : Trees → List Node → Type 0
AreStored s ns = All (λ n. IsStored s n.entry) ns

-- each parent is an older scope
abbrev pub AreOrdered : List Node → Type 0
AreOrdered ns = (i : ℕ) (d : Node) → i < length ns → (get_or ns i d).parent.0 ≤ i

-- each scope has the entries that it had
pub record KeepsScopes (old new : List Node) : Type 0 where
  pub many : length old ≤ length new
  pub same : (k : ℕ) → k ≤ length old → entries_in new k ≡ entries_in old k

-- a scope that is there stands for these entries
pub record IsScope (s : Trees) (ns : List Node) (k : ℕ) (es : List Entry) : Type 0 where
  pub inside : k ≤ length ns
  pub stored : All (IsStored s) (entries_in ns k)
  pub entries : es ≡ entries_of s (entries_in ns k)
