-- The tables of a signature, searched.
use Rattle.std.proofs.Common.{◌≡◌, ℕ, ◌≤◌, length, nat_lt, Result, Ok, Err, IfErr, OnOk, if◌then◌else◌, ◌&&◌, ◌||◌, Bool, true, false, cond, ◌==◌, List, [], ◌∷◌, ◌++◌, map, Option, Some, None, is_some, option_map, refl, sym, ◌∙◌, ap, subst, arith}
use Rattle.std.proofs.lemmas.Grind.{common_steps}
use Rattle.std.specs.Map.{lookup}
use Rattle.ath_sorts.specs.declared.sorts.Sym.{Sym}
use Rattle.ath_sorts.specs.declared.signature.Symbol.{Symbol}
use Rattle.ath_sorts.specs.Kept.{AreNamed}
use Rattle.ath_sorts.specs.Signature.{Signature, arity_of, symbol_of, arity_among, symbol_among}
use Rattle.ath_sorts.specs.declared.signature.SigError.{SigError}
use Rattle.ath_sorts.specs.declared.signature.SigError.TheVariants.{Memory}
use Rattle.ath_sorts.specs.declared.signature.Flaw.{Flaw}
use Rattle.ath_sorts.specs.declared.signature.Flaw.TheVariants as flaw
use Rattle.ath_sorts.specs.declared.signature.Flaw.TheVariants.{SortTooLarge}
use Rattle.ath_sorts.specs.declared.sorts.Sort.{Sort}
use Rattle.ath_sorts.specs.declared.sorts.SVar.TheVariants.{Written}
use Rattle.ath_sorts.specs.Answers.{MatchFault}
use Rattle.ath_sorts.specs.Declaring.{error_of, domain_fault, first_fault, use_fault, use_faults, all_small, loose_faults, symbol_fault}
use Rattle.ath_sorts.specs.Sorts.{is_small, occurs}
use Rattle.std.specs.List.{list_any}
use Rattle.std.proofs.lemmas.List.Folds.{list_any-append, list_all-append}
use Rattle.ath_sorts.proofs.Bools.{and-true, or-false, turned}
use Rattle.ath_sorts.proofs.Gets.{map-both}

pub arity-lookup : (es : List (Sym × ℕ)) (n : Sym) → lookup (λ k. n.0 == k.0) es ≡ arity_among es n
arity-lookup [] n = refl
arity-lookup (e ∷ es) n = rw turned (ap (cond (e.0.0 == n.0) (Some e.1)) (arity-lookup es n))

pub symbol-lookup : (es : List (Sym × Symbol)) (n : Sym) → AreNamed es → lookup (λ k. n.0 == k.0) es ≡ symbol_among (map (λ e. e.1) es) n
symbol-lookup [] n h = refl
symbol-lookup (e ∷ es) n h =
    let t = turned n.0 e.0.0 in
    let a = h.0 in
    let r = symbol-lookup es n h.1 in
    rw (t, ← a) (ap (cond (e.1.name.0 == n.0) (Some e.1)) r)

pub AreNamed-more : (es : List (Sym × Symbol)) (e : Sym × Symbol) → AreNamed es → e.1.name ≡ e.0 → AreNamed (es ++ e ∷ [])
AreNamed-more [] e h n = (n, tt)
AreNamed-more (x ∷ es) e h n = (h.0, AreNamed-more es e h.1 n)

pub symbols-more : (es : List (Sym × Symbol)) (e : Sym × Symbol) → map (λ e. e.1) (es ++ e ∷ []) ≡ map (λ e. e.1) es ++ e.1 ∷ []
symbols-more [] e = refl
symbols-more (x ∷ es) e = ap (λ r. x.1 ∷ r) (symbols-more es e)

pub first-last : (xs : List (Option Flaw)) (y : Option Flaw) → first_fault (xs ++ y ∷ []) ≡ first_fault (first_fault xs ∷ y ∷ [])
first-last [] y = refl
first-last (None ∷ xs) y = first-last xs y
first-last (Some e ∷ xs) y = refl

pub uses-last : (sig : Signature) (params : List Sym) (args : List Sort) (r : Sort) → use_faults sig params (args ++ r ∷ []) ≡ first_fault (use_faults sig params args ∷ use_fault sig params r ∷ [])
uses-last sig params args r = ap first_fault (map-both (use_fault sig params) args (r ∷ [])) ∙ first-last (map (use_fault sig params) args) (use_fault sig params r)

pub small-last : (args : List Sort) (r : Sort) → all_small (args ++ r ∷ []) ≡ (all_small args && is_small r)
small-last args r = list_all-append is_small args (r ∷ []) ∙ ap (λ b. all_small args && b) (and-true (is_small r))

pub occurs-last : (p : Sym) (args : List Sort) (r : Sort) → list_any (occurs (Written p)) (args ++ r ∷ []) ≡ (list_any (occurs (Written p)) args || occurs (Written p) r)
occurs-last p args r = list_any-append (occurs (Written p)) args (r ∷ []) ∙ ap (λ b. list_any (occurs (Written p)) args || b) (or-false (occurs (Written p) r))

pub ruleset with_last = (uses-last, small-last, occurs-last)

pub none_of : {A : Type 0} (o : Option A) → is_some o ≡ false → o ≡ None
none_of None h = refl
none_of (Some x) h = absurd (cc)

not_above : (n : ℕ) → n ≤ 64 → nat_lt 64 n ≡ false
not_above n h = grind (arith, common_steps)

both_false : (a b : Bool) → a ≡ false → b ≡ false → (a || b) ≡ false
both_false a b p q = rw (p, q) refl

-- what is refused once the name is new and the symbol is narrow enough
module _ (sig : Signature) (name : Sym) (params : List Sym) (args : List Sort) (r : Sort) where
  after_width : is_some (symbol_of sig name) ≡ false → length params ≤ 64 → length args ≤ 64 → symbol_fault sig name params args r ≡ first_fault (use_faults sig params (args ++ r ∷ []) ∷ (if all_small (args ++ r ∷ []) then None else Some SortTooLarge) ∷ loose_faults (args ++ r ∷ []) params ∷ [])
  after_width new few narrow =
      let w = both_false (nat_lt 64 (length params)) (nat_lt 64 (length args)) (not_above _ few) (not_above _ narrow) in
      rw (new, w) refl

  pub fault_in_args : (e : Flaw) → is_some (symbol_of sig name) ≡ false → length params ≤ 64 → length args ≤ 64 → use_faults sig params args ≡ Some e → symbol_fault sig name params args r ≡ Some e
  fault_in_args e new few narrow u = after_width new few narrow ∙ rw (uses-last, u) refl

  pub fault_in_result : (e : Flaw) → is_some (symbol_of sig name) ≡ false → length params ≤ 64 → length args ≤ 64 → use_faults sig params args ≡ None → use_fault sig params r ≡ Some e → symbol_fault sig name params args r ≡ Some e
  fault_in_result e new few narrow u v = after_width new few narrow ∙ rw (uses-last, u, v) refl

  pub fault_large : is_some (symbol_of sig name) ≡ false → length params ≤ 64 → length args ≤ 64 → use_faults sig params args ≡ None → use_fault sig params r ≡ None → all_small (args ++ r ∷ []) ≡ false → symbol_fault sig name params args r ≡ Some SortTooLarge
  fault_large new few narrow u v l = after_width new few narrow ∙ rw (uses-last, u, v, l) refl

  pub fault_loose : is_some (symbol_of sig name) ≡ false → length params ≤ 64 → length args ≤ 64 → use_faults sig params args ≡ None → use_fault sig params r ≡ None → all_small (args ++ r ∷ []) ≡ true → symbol_fault sig name params args r ≡ loose_faults (args ++ r ∷ []) params
  fault_loose new few narrow u v l = after_width new few narrow ∙ rw (uses-last, u, v, l) (last_only (loose_faults (args ++ r ∷ []) params))
    where
      last_only : (f : Option Flaw) → first_fault (f ∷ []) ≡ f
      last_only None = refl
      last_only (Some e) = refl

  pub new_when_none : symbol_fault sig name params args r ≡ None → symbol_of sig name ≡ None
  new_when_none h = by (symbol_of sig name) refl
    where
      by : (o : Option Symbol) → symbol_of sig name ≡ o → symbol_of sig name ≡ None
      by None e = e
      by (Some x) e = absurd (let k = rw e at h in cc)

pub AreNamed-after : (a : Result (Unit {0}) SigError) (old new : List (Sym × Symbol)) (n : Sym) (s : Symbol) → AreNamed old → s.name ≡ n → OnOk a (new ≡ old ++ (n, s) ∷ []) → IfErr a (λ e. (e ≡ Memory) × (new ≡ old)) → AreNamed new
AreNamed-after (Ok u) old new n s h m p q = rw p (AreNamed-more old (n, s) h m)
AreNamed-after (Err e) old new n s h m p q = rw q.1 h

-- the answer of a flaw is the error that tells of it
pub flawed : (o : Option Flaw) (f : Flaw) (e : SigError) → o ≡ Some f → e ≡ error_of f → MatchFault o (Err e)
flawed o f e is same = subst (λ (e : SigError). MatchFault o (Err e)) (sym same) (by f is)
  where
    by : (f : Flaw) → o ≡ Some f → MatchFault o (Err (error_of f))
    by (flaw.Redeclared n) is = ap (option_map error_of) is
    by (flaw.TooWide n) is = ap (option_map error_of) is
    by (flaw.UnknownVariable n) is = ap (option_map error_of) is
    by (flaw.UnknownSort n) is = ap (option_map error_of) is
    by (flaw.Arity n) is = ap (option_map error_of) is
    by flaw.SortTooLarge is = ap (option_map error_of) is
    by (flaw.LooseParam n) is = ap (option_map error_of) is

pub domain_new : (sig : Signature) (name : Sym) (arity : ℕ) → domain_fault sig name arity ≡ None → arity_of sig name ≡ None
domain_new sig name arity h = by (arity_of sig name) refl
  where
    by : (o : Option ℕ) → arity_of sig name ≡ o → arity_of sig name ≡ None
    by None e = e
    by (Some x) e = absurd (let k = rw e at h in cc)
