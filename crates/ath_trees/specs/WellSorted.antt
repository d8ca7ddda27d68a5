-- When a tree is well-sorted in a signature: every argument has the declared sort at the sort arguments, both sides of an
-- equation have one sort, every atom has sort Boolean, and every sort is built of the signature's constructors.
use Rattle.std.specs.Prelude.{◌≡◌, ℕ, Bool, true, false, ◌&&◌, ◌==◌, List, [], ◌∷◌, length, map, Option, Some, None}
use Rattle.std.specs.List.{list_all}
use Rattle.ath_sorts.specs.declared.sorts.Sym.{Sym}
use Rattle.ath_sorts.specs.declared.sorts.Sort.{Sort}
use Rattle.ath_sorts.specs.declared.sorts.Sort.TheOpen as one
use Rattle.ath_sorts.specs.declared.sorts.Sort.TheFolds.{fold-Sort}
use Rattle.ath_sorts.specs.declared.signature.Symbol.{Symbol}
use Rattle.ath_sorts.specs.Signature.{Signature, arity_of, symbol_of, at_sorts, boolean}
use Rattle.ath_trees.specs.declared.node.Var.{Var}
use Rattle.ath_trees.specs.Tree.{Term, Terms, var, app, none, more, Sent, atom, equal, negated, joined, bound}

abbrev pub has_arity : Option ℕ → ℕ → Bool
has_arity (Some k) n = k == n
has_arity None n = false

abbrev pub valid_step : Signature → one.Sort-F Bool → Bool
valid_step sig (one.Var v) = true
valid_step sig (one.Con c args) = has_arity (arity_of sig c) (length args) && list_all (λ b. b) args

-- each constructor in the sort is there, at its arity
abbrev pub is_valid_sort : Signature → Sort → Bool
is_valid_sort sig = fold-Sort Bool (valid_step sig)

mutual
  pub data HasSort (sig : Signature) : Term → Sort → Type 0 where
    var_has : {v : Var} {s : Sort} → is_valid_sort sig v.sort ≡ true → s ≡ v.sort → HasSort sig (var v) s
    app_has : {f : Sym} {sorts : List Sort} {args : Terms} {s : Sort} (d : Symbol) → symbol_of sig f ≡ Some d → length sorts ≡ length d.params → list_all (is_valid_sort sig) sorts ≡ true
        → HaveSorts sig args (map (at_sorts d.params sorts) d.args) → s ≡ at_sorts d.params sorts d.result → HasSort sig (app f sorts args) s

  pub data HaveSorts (sig : Signature) : Terms → List Sort → Type 0 where
    none_has : HaveSorts sig none []
    more_has : {t : Term} {ts : Terms} {s : Sort} {ss : List Sort} → HasSort sig t s → HaveSorts sig ts ss → HaveSorts sig (more t ts) (s ∷ ss)

abbrev pub IsWellSorted : Signature → Sent → Type 0
IsWellSorted sig (atom t) = HasSort sig t boolean
IsWellSorted sig (equal s t) = (r : Sort) × (HasSort sig s r × HasSort sig t r)
IsWellSorted sig (negated p) = IsWellSorted sig p
IsWellSorted sig (joined c p q) = IsWellSorted sig p × IsWellSorted sig q
IsWellSorted sig (bound q v p) = (is_valid_sort sig v.sort ≡ true) × IsWellSorted sig p

abbrev pub AreWellSorted : Signature → List Sent → Type 0
AreWellSorted sig [] = Unit {0}
AreWellSorted sig (p ∷ ps) = IsWellSorted sig p × AreWellSorted sig ps
