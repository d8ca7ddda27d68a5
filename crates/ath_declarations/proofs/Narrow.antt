-- Declarations keep each symbol at 64 parameters at most.
use Rattle.std.proofs.Common.{◌≡◌, ◌≤◌, ◌==◌, ◌||◌, Bool, true, false, cond, nat_lt, ◌⊎◌, inl, inr, List, [], ◌∷◌, ◌++◌, length, map, Option, Some, None, Ok, refl, subst, arith}
use Rattle.std.proofs.lemmas.Bool.Decides.{nat_tests}
use Rattle.ath_sorts.specs.declared.limits.TheConstants.{MOST_WIDTH}
use Rattle.ath_sorts.specs.declared.signature.Symbol.{Symbol}
use Rattle.ath_sorts.specs.declared.sorts.Sort.{Sort}
use Rattle.ath_sorts.specs.declared.sorts.Sym.{Sym}
use Rattle.ath_sorts.specs.Declaring.{domain_fault, symbol_fault, with_sort, with_symbol}
use Rattle.ath_sorts.specs.Signature.{Signature, symbol_among}
use Rattle.ath_syntax.specs.declared.node.SortText.{SortText}
use Rattle.ath_declarations.specs.Declarations.{domain_declared, params_of, with_symbols, declared}
use Rattle.ath_declarations.specs.Laws.{AreNarrow}
use Rattle.ath_declarations.specs.Texts.{sort_of}
use Rattle.ath_declarations.proofs.Joins.{passes}
use Rattle.ath_declarations.proofs.Keeping.{unless_ok, ok_is}

-- a declaration that isn't refused has 64 parameters at most
narrow_here : (params : List Sym) (args : List Sort) → (nat_lt MOST_WIDTH (length params) || nat_lt MOST_WIDTH (length args)) ≡ false → length params ≤ 64
narrow_here params args h = by (nat_lt MOST_WIDTH (length params)) refl h
  where
    by : (b : Bool) → nat_lt MOST_WIDTH (length params) ≡ b → (b || nat_lt MOST_WIDTH (length args)) ≡ false → length params ≤ 64
    by true e h = absurd (cc)
    by false e h = grind (arith, nat_tests, e)

-- a symbol is found where it was, or is the one that was added
found_in : (ss : List Symbol) (t : Symbol) (f : Sym) (d : Symbol) → symbol_among (ss ++ t ∷ []) f ≡ Some d → (symbol_among ss f ≡ Some d) ⊎ (t ≡ d)
found_in [] t f d e = by (t.name.0 == f.0) e
  where
    by : (b : Bool) → cond b (Some t) None ≡ Some d → (None ≡ Some d) ⊎ (t ≡ d)
    by true e = inr (cc)
    by false e = absurd (cc)
found_in (s ∷ ss) t f d e = by (s.name.0 == f.0) (found_in ss t f d) e
  where
    by : (b : Bool) → (symbol_among (ss ++ t ∷ []) f ≡ Some d → (symbol_among ss f ≡ Some d) ⊎ (t ≡ d)) → cond b (Some s) (symbol_among (ss ++ t ∷ []) f) ≡ Some d → (cond b (Some s) (symbol_among ss f) ≡ Some d) ⊎ (t ≡ d)
    by true r e = inl e
    by false r e = r e

one_more : (sig : Signature) (t : Symbol) → length t.params ≤ 64 → AreNarrow sig → AreNarrow (with_symbol sig t)
one_more sig t le h f d e = by (found_in sig.symbols t f d e)
  where
    by : (symbol_among sig.symbols f ≡ Some d) ⊎ (t ≡ d) → length d.params ≤ 64
    by (inl e) = h f d e
    by (inr same) = subst (λ (s : Symbol). length s.params ≤ 64) same le

module _ (params : List Sym) (args : List Sort) (result : Sort) where
  abbrev named : Sym → Symbol
  named n = record { name = n; params = params; args = args; result = result }

  joined_narrow : (names : List Sym) (old new : Signature) → AreNarrow old → with_symbols old names params args result ≡ Ok new → AreNarrow new
  joined_narrow [] old new h e = subst AreNarrow (ok_is old new e) h
  joined_narrow (n ∷ names) old new h e =
      let u = unless_ok (symbol_fault old n params args result) (with_symbols (with_symbol old (named n)) names params args result) new e in
      let p = passes params args result old n u.0 in
      joined_narrow names (with_symbol old (named n)) new (one_more old (named n) (narrow_here params args p.width) h) u.1

pub symbols_narrow : (old new : Signature) (names : List Sym) (list : Option (List Sym)) (args : List SortText) (result : SortText) → AreNarrow old → declared old names list args result ≡ Ok new → AreNarrow new
symbols_narrow old new names list args result h e = joined_narrow (params_of list (map sort_of args ++ sort_of result ∷ [])) (map sort_of args) (sort_of result) names old new h e

pub domain_narrow : (old new : Signature) (name : Sym) (vars : List Sym) → AreNarrow old → domain_declared old name vars ≡ Ok new → AreNarrow new
domain_narrow old new name vars h e =
    let u = unless_ok (domain_fault old name (length vars)) (Ok (with_sort old name (length vars))) new e in
    subst AreNarrow (ok_is (with_sort old name (length vars)) new u.1) h
