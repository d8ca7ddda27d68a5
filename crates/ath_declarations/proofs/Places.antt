-- The first bad place of a sort where every variable is allowed.
use Rattle.std.proofs.Common.{◌≡◌, ℕ, ◌==◌, ◌||◌, Bool, true, false, cond, List, [], ◌∷◌, ◌++◌, map, Option, Some, None, refl, sym, ◌∙◌, ap}
use Rattle.std.specs.List.{list_any, list_all, flat_map, AllByRecursion}
use Rattle.ath_sorts.specs.declared.signature.Flaw.{Flaw}
use Rattle.ath_sorts.specs.declared.signature.Flaw.TheVariants.{UnknownVariable}
use Rattle.ath_sorts.specs.declared.sorts.SVar.{SVar}
use Rattle.ath_sorts.specs.declared.sorts.SVar.TheVariants.{Written, Made}
use Rattle.ath_sorts.specs.declared.sorts.Sort.{Sort, Var, Con}
use Rattle.ath_sorts.specs.declared.sorts.Sort.TheOpen as one
use Rattle.ath_sorts.specs.declared.sorts.Sort.TheVariants.{rolls-Var, rolls-Con}
use Rattle.ath_sorts.specs.declared.sorts.Sort.TheFolds.{fold-roll-Sort}
use Rattle.ath_sorts.specs.declared.sorts.Sym.{Sym}
use Rattle.ath_sorts.specs.Declaring.{constructor_fault, use_step, use_fault}
use Rattle.ath_sorts.specs.Signature.{Signature, arity_of}
use Rattle.ath_sorts.proofs.Bools.{and_parts, num_same}
use Rattle.ath_sorts.proofs.SortLaws.{sort_induction}
use Rattle.ath_declarations.specs.Steps.{place_step, place_fault}
use Rattle.ath_declarations.specs.Texts.{written_step, written_in}

-- ---- one step of each
pub written-var : (v : SVar) → written_in (Var v) ≡ written_step (one.Var v)
written-var v = ap written_in (sym (rolls-Var v)) ∙ fold-roll-Sort (List Sym) written_step (one.Var v)

pub written-con : (c : Sym) (args : List Sort) → written_in (Con c args) ≡ flat_map (λ ns. ns) (map written_in args)
written-con c args = ap written_in (sym (rolls-Con c args)) ∙ fold-roll-Sort (List Sym) written_step (one.Con c args)

same-flat : (args : List Sort) → flat_map (λ ns. ns) (map written_in args) ≡ flat_map written_in args
same-flat [] = refl
same-flat (s ∷ ss) = ap (λ ns. written_in s ++ ns) (same-flat ss)

pub written_var : (p : Sym) → written_in (Var (Written p)) ≡ p ∷ []
written_var p = written-var (Written p)

pub made_var : (n : ℕ) → written_in (Var (Made n)) ≡ []
made_var n = written-var (Made n)

pub written_con : (c : Sym) (args : List Sort) → written_in (Con c args) ≡ flat_map written_in args
written_con c args = written-con c args ∙ same-flat args

use-var : (sig : Signature) (params : List Sym) (v : SVar) → use_fault sig params (Var v) ≡ use_step sig params (one.Var v)
use-var sig params v = ap (use_fault sig params) (sym (rolls-Var v)) ∙ fold-roll-Sort (Option Flaw) (use_step sig params) (one.Var v)

pub use-con : (sig : Signature) (params : List Sym) (c : Sym) (args : List Sort) → use_fault sig params (Con c args) ≡ constructor_fault (arity_of sig c) c (map (use_fault sig params) args)
use-con sig params c args = ap (use_fault sig params) (sym (rolls-Con c args)) ∙ fold-roll-Sort (Option Flaw) (use_step sig params) (one.Con c args)

place-var : (sig : Signature) (v : SVar) → place_fault sig (Var v) ≡ None
place-var sig v = ap (place_fault sig) (sym (rolls-Var v)) ∙ fold-roll-Sort (Option Flaw) (place_step sig) (one.Var v)

place-con : (sig : Signature) (c : Sym) (args : List Sort) → place_fault sig (Con c args) ≡ constructor_fault (arity_of sig c) c (map (place_fault sig) args)
place-con sig c args = ap (place_fault sig) (sym (rolls-Con c args)) ∙ fold-roll-Sort (Option Flaw) (place_step sig) (one.Con c args)

-- ---- it is that of a list which has all
abbrev all_in : List Sym → List Sym → Bool
all_in params = list_all (λ n. list_any (λ q. q.0 == n.0) params)

all_front : (params ms ns : List Sym) → all_in params (ms ++ ns) ≡ true → (all_in params ms ≡ true) × (all_in params ns ≡ true)
all_front params [] ns h = (refl, h)
all_front params (m ∷ ms) ns h =
    let p = and_parts (list_any (λ q. q.0 == m.0) params) (all_in params (ms ++ ns)) h in
    let r = all_front params ms ns p.1 in
    (rw (p.0, r.0) refl, r.1)

module _ (sig : Signature) (params : List Sym) where
  abbrev IsSame : Sort → Type 0
  IsSame s = all_in params (written_in s) ≡ true → place_fault sig s ≡ use_fault sig params s

  same_var : (v : SVar) → all_in params (written_step (one.Var v)) ≡ true → None ≡ use_step sig params (one.Var v)
  same_var (Written p) h = sym (ap (λ b. cond b None (Some (UnknownVariable p))) (and_parts (list_any (λ q. q.0 == p.0) params) true h).0)
  same_var (Made n) h = refl

  same_args : (args : List Sort) → AllByRecursion IsSame args → all_in params (flat_map (λ ns. ns) (map written_in args)) ≡ true → map (place_fault sig) args ≡ map (use_fault sig params) args
  same_args [] a h = refl
  same_args (s ∷ ss) a h =
      let p = all_front params (written_in s) (flat_map (λ ns. ns) (map written_in ss)) h in
      λ i. (a.0 p.0 i) ∷ (same_args ss a.1 p.1 i)

  pub allowed : (s : Sort) → all_in params (written_in s) ≡ true → place_fault sig s ≡ use_fault sig params s
  allowed = sort_induction IsSame
      (λ v h. place-var sig v ∙ same_var v (ap (all_in params) (sym (written-var v)) ∙ h) ∙ sym (use-var sig params v))
      (λ c args a h. place-con sig c args ∙ ap (constructor_fault (arity_of sig c) c) (same_args args a (ap (all_in params) (sym (written-con c args)) ∙ h)) ∙ sym (use-con sig params c args))

-- a list has all of its own
has_more : (m n : Sym) (ns : List Sym) → list_any (λ q. q.0 == n.0) ns ≡ true → list_any (λ q. q.0 == n.0) (m ∷ ns) ≡ true
has_more m n ns h = by (m.0 == n.0)
  where
    by : (b : Bool) → (b || list_any (λ q. q.0 == n.0) ns) ≡ true
    by true = refl
    by false = h

all_more : (m : Sym) (params ns : List Sym) → all_in params ns ≡ true → all_in (m ∷ params) ns ≡ true
all_more m params [] h = refl
all_more m params (n ∷ ns) h =
    let p = and_parts (list_any (λ q. q.0 == n.0) params) (all_in params ns) h in
    rw (has_more m n params p.0, all_more m params ns p.1) refl

all_own : (ns : List Sym) → all_in ns ns ≡ true
all_own [] = refl
all_own (n ∷ ns) = rw (num_same n.0, all_more n ns ns (all_own ns)) refl

pub all_allowed : (sig : Signature) (s : Sort) → place_fault sig s ≡ use_fault sig (written_in s) s
all_allowed sig s = allowed sig (written_in s) s (all_own (written_in s))
