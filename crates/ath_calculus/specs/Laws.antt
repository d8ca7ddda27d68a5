-- Laws of derivations.
use Rattle.std.specs.Prelude.{◌≡◌, ℕ, List, ◌∷◌, Some}
use Rattle.ath_sorts.specs.declared.sorts.Sym.{Sym}
use Rattle.ath_sorts.specs.declared.signature.Symbol.{Symbol}
use Rattle.ath_sorts.specs.Signature.{arity_of, symbol_of}
use Rattle.ath_trees.specs.Tree.{Sent}
use Rattle.ath_trees.specs.WellSorted.{IsWellSorted, AreWellSorted}
use Rattle.ath_calculus.specs.Derives.{Derives, IsAmong, AreAmong}
use Rattle.ath_calculus.specs.Theory.{Theory, Datatype}

-- what the one theory has, the other has too
pub record Extends (old new : Theory) : Type 0 where
  pub sorts : (c : Sym) (n : ℕ) → arity_of old.signature c ≡ Some n → arity_of new.signature c ≡ Some n
  pub symbols : (f : Sym) (d : Symbol) → symbol_of old.signature f ≡ Some d → symbol_of new.signature f ≡ Some d
  pub datatypes : (d : Datatype) → IsAmong d old.datatypes → IsAmong d new.datatypes

abbrev pub Growth : Type 0
Growth =
    (old new : Theory) (fewer more hyps : List Sent) (p : Sent) → Extends old new → AreAmong fewer more
    → Derives old fewer hyps p → Derives new more hyps p

abbrev pub WellSorted : Type 0
WellSorted = (th : Theory) (asserted hyps : List Sent) (p : Sent) → Derives th asserted hyps p → IsWellSorted th.signature p

abbrev pub Weakening : Type 0
Weakening =
    (th : Theory) (asserted some hyps : List Sent) (p : Sent) → AreWellSorted th.signature hyps → AreAmong some hyps
    → Derives th asserted some p → Derives th asserted hyps p

abbrev pub Cut : Type 0
Cut =
    (th : Theory) (asserted hyps : List Sent) (p q : Sent) → Derives th asserted hyps p
    → Derives th asserted (p ∷ hyps) q → Derives th asserted hyps q
