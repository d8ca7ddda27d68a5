-- How deep the trees of a list are at most.
use Rattle.std.proofs.Common.{ℕ, List, Option, Some, None}
use Prim.Native.Nat.{max}
use denote.Param.Weighed.{most}
use Rattle.ath_sorts.specs.declared.sorts.Sym.{Sym}
use Rattle.ath_numbering.specs.declared.tree.PatternTree.{PatternTree}
use Rattle.ath_numbering.specs.declared.tree.PhraseTree.{PhraseTree}
use Rattle.ath_numbering.proofs.tree.PhraseTree.TheLaws.{the_size}

abbrev pub deeper : ℕ → ℕ → ℕ
deeper = max

abbrev pub most_phrases : List PhraseTree → ℕ
most_phrases = most the_size

abbrev pub most_bindings : List (Sym × PhraseTree) → ℕ
most_bindings = most (λ b. the_size b.1)

abbrev pub most_clauses : List (PatternTree × PhraseTree) → ℕ
most_clauses = most (λ c. the_size c.1)

abbrev pub most_branches : List (PhraseTree × PhraseTree) → ℕ
most_branches = most (λ b. max (the_size b.0) (the_size b.1))

abbrev pub most_otherwise : Option PhraseTree → ℕ
most_otherwise None = 0
most_otherwise (Some x) = the_size x
