-- Keys of sentences: two have one key where they are alike with all sorts left out.
use Rattle.std.specs.Prelude.{◌≡◌, ◌↔◌, ℕ, ◌<◌, ◌≤◌, Bool, List, length}
use Rattle.ath_sorts.specs.declared.sorts.SVar.{SVar}
use Rattle.ath_sorts.specs.declared.sorts.Sort.{Sort}
use Rattle.ath_trees.specs.Tree.{Sent}
use Rattle.ath_trees.specs.Nameless.{nameless}
use Rattle.ath_trees.specs.Instance.{IsSortInstance}
use Rattle.ath_terms.specs.Trees.{Trees, sent_at, Grows}
use Rattle.ath_alpha.specs.Seen.{unsorted}

-- their nameless forms are one with all sorts left out
abbrev pub AreAlike : Sent → Sent → Type 0
AreAlike p q = unsorted (nameless p) ≡ unsorted (nameless q)

-- the least number of a sentence that is like this one
pub record IsKey (ss : List Sent) (p k : ℕ) : Type 0 where
  pub within : k ≤ p
  pub alike : AreAlike (sent_at ss k) (sent_at ss p)
  pub least : (i : ℕ) → i < k → AreAlike (sent_at ss i) (sent_at ss p) → ⊥

abbrev pub KeysTellForms : Type 0
KeysTellForms = (ss : List Sent) (p q j k : ℕ) → IsKey ss p j → IsKey ss q k → (j ≡ k) ↔ AreAlike (sent_at ss p) (sent_at ss q)

abbrev pub InstancesHaveOneKey : Type 0
InstancesHaveOneKey = (rigid : SVar → Bool) (f : SVar → Sort) (p q : Sent) → IsSortInstance rigid f p q → AreAlike p q

abbrev pub KeysAreKept : Type 0
KeysAreKept = (old new : Trees) (p k : ℕ) → p < length old.sents → Grows old new → IsKey old.sents p k → IsKey new.sents p k
