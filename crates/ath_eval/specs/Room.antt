-- Room for fresh names.
use Rattle.std.specs.Prelude.{◌≡◌, ◌+◌, ◌*◌, ◌^◌, ◌≤◌, ◌<◌, ℕ, Some, length}
use Rattle.ath_sorts.specs.declared.sorts.Sym.{Sym}
use Rattle.ath_sorts.specs.declared.signature.Symbol.{Symbol}
use Rattle.ath_sorts.specs.Signature.{Signature, symbol_of}
use Rattle.ath_terms.specs.declared.fresh.Fresh.{Fresh}

-- a step takes at most this many fresh indices of variables, and as many sort variables
abbrev pub most_taken : ℕ
most_taken = 4194304

-- the counters when so many steps more have taken all that they may
abbrev pub charged : ℕ → Fresh → Fresh
charged steps fresh = record { var = fresh.var + most_taken * steps; sort = fresh.sort + most_taken * steps }

-- each counter is at most that of the bound
abbrev pub IsBelow : Fresh → Fresh → Type 0
IsBelow fresh bound = (fresh.var ≤ bound.var) × (fresh.sort ≤ bound.sort)

-- both counters stay below 2^62 in so many steps more
abbrev pub IsRoomy : ℕ → Fresh → Type 0
IsRoomy steps fresh = ((charged steps fresh).var < 2 ^ 62) × ((charged steps fresh).sort < 2 ^ 62)

-- each symbol has at most 64 parameters
abbrev pub IsNarrow : Signature → Type 0
IsNarrow sig = (f : Sym) (d : Symbol) → symbol_of sig f ≡ Some d → length d.params ≤ 64
