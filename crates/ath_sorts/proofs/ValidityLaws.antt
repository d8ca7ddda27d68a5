-- Declarations keep a signature valid.
use Rattle.std.proofs.Common.{◌≡◌, ℕ, Bool, true, false, cond, ◌==◌, ◌||◌, List, [], ◌∷◌, ◌++◌, length, map, Option, Some, None, is_some, refl, sym, ◌∙◌, ap, subst, arith, nat_lt}
use Rattle.std.specs.List.{list_any, AllByRecursion}
use Rattle.ath_sorts.specs.declared.limits.TheConstants.{MOST_WIDTH}
use Rattle.ath_sorts.specs.declared.signature.Flaw.{Flaw}
use Rattle.ath_sorts.specs.declared.signature.Flaw.TheVariants.{Redeclared, TooWide, Arity, SortTooLarge}
use Rattle.ath_sorts.specs.declared.signature.Symbol.{Symbol}
use Rattle.ath_sorts.specs.declared.sorts.SVar.{SVar}
use Rattle.ath_sorts.specs.declared.sorts.SVar.TheVariants.{Written, Made}
use Rattle.ath_sorts.specs.declared.sorts.Sort.{Sort, Var, Con}
use Rattle.ath_sorts.specs.declared.sorts.Sort.TheOpen as one
use Rattle.ath_sorts.specs.declared.sorts.Sort.TheVariants.{rolls-Var, rolls-Con}
use Rattle.ath_sorts.specs.declared.sorts.Sort.TheFolds.{fold-roll-Sort}
use Rattle.ath_sorts.specs.declared.sorts.Sym.{Sym}
use Rattle.ath_sorts.specs.Declaring.{first_fault, fault_if, constructor_fault, use_step, use_fault, use_faults, loose_faults, all_small, domain_fault, symbol_fault, with_sort, with_symbol}
use Rattle.ath_sorts.specs.Signature.{Signature, arity_among, symbol_among, arity_of, symbol_of, initial, boolean, truth_value}
use Rattle.ath_sorts.specs.Validity.{is_name_of, AreDistinct, has_made, made_step, IsValidSymbol, IsValid}
use Rattle.ath_sorts.proofs.Gets.{map-both}
use Rattle.ath_sorts.proofs.SortLaws.{sort_induction}
use Rattle.ath_sorts.proofs.Bools.{true-not-false, or_parts, or_false, turned}

pub first_none : (f : Option Flaw) (fs : List (Option Flaw)) → first_fault (f ∷ fs) ≡ None → (f ≡ None) × (first_fault fs ≡ None)
first_none None fs h = (refl, h)
first_none (Some e) fs h = absurd (cc)

first_of_none : (f : Option Flaw) (fs : List (Option Flaw)) → f ≡ None → first_fault fs ≡ None → first_fault (f ∷ fs) ≡ None
first_of_none f fs p q = rw p q

no_fault : (b : Bool) (e : Flaw) → fault_if b e ≡ None → b ≡ false
no_fault true e h = absurd (cc)
no_fault false e h = refl

any-last : (n : Sym) (names : List Sym) (m : Sym) → is_name_of n names ≡ false → (m.0 == n.0) ≡ false → is_name_of n (names ++ m ∷ []) ≡ false
any-last n [] m h k = or_false (m.0 == n.0) false k refl
any-last n (x ∷ names) m h k = let p = or_parts (x.0 == n.0) (is_name_of n names) h in or_false (x.0 == n.0) (is_name_of n (names ++ m ∷ [])) p.0 (any-last n names m p.1 k)

distinct-last : (names : List Sym) (n : Sym) → AreDistinct names → is_name_of n names ≡ false → AreDistinct (names ++ n ∷ [])
distinct-last [] n d h = (refl, tt)
distinct-last (x ∷ names) n d h = let p = or_parts (x.0 == n.0) (is_name_of n names) h in (any-last x names n d.0 (turned n.0 x.0 ∙ p.0), distinct-last names n d.1 p.1)

name_step : {A : Type 0} (b : Bool) (x : A) (o : Option A) (r : Bool) → (is_some o ≡ false → r ≡ false) → is_some (cond b (Some x) o) ≡ false → (b || r) ≡ false
name_step true x o r f h = absurd (true-not-false h)
name_step false x o r f h = f h

sort-new : (es : List (Sym × ℕ)) (n : Sym) → is_some (arity_among es n) ≡ false → is_name_of n (map (λ e. e.0) es) ≡ false
sort-new [] n h = refl
sort-new (e ∷ es) n h = name_step (e.0.0 == n.0) e.1 (arity_among es n) (is_name_of n (map (λ e. e.0) es)) (sort-new es n) h

symbol-new : (ss : List Symbol) (n : Sym) → is_some (symbol_among ss n) ≡ false → is_name_of n (map (λ s. s.name) ss) ≡ false
symbol-new [] n h = refl
symbol-new (s ∷ ss) n h = name_step (s.name.0 == n.0) s (symbol_among ss n) (is_name_of n (map (λ s. s.name) ss)) (symbol-new ss n) h

kept_step : (b : Bool) (x k : ℕ) (o p : Option ℕ) → (o ≡ Some k → p ≡ Some k) → cond b (Some x) o ≡ Some k → cond b (Some x) p ≡ Some k
kept_step true x k o p f h = h
kept_step false x k o p f h = f h

arity-kept : (es : List (Sym × ℕ)) (e : Sym × ℕ) (n : Sym) (k : ℕ) → arity_among es n ≡ Some k → arity_among (es ++ e ∷ []) n ≡ Some k
arity-kept [] e n k h = absurd (cc)
arity-kept (x ∷ es) e n k h = kept_step (x.0.0 == n.0) x.1 k (arity_among es n) (arity_among (es ++ e ∷ []) n) (arity-kept es e n k) h

pub use-var : (sig : Signature) (params : List Sym) (v : SVar) → use_fault sig params (Var v) ≡ use_step sig params (one.Var v)
use-var sig params v = ap (use_fault sig params) (sym (rolls-Var v)) ∙ fold-roll-Sort (Option Flaw) (use_step sig params) (one.Var v)

pub use-con : (sig : Signature) (params : List Sym) (c : Sym) (args : List Sort) → use_fault sig params (Con c args) ≡ constructor_fault (arity_of sig c) c (map (use_fault sig params) args)
use-con sig params c args = ap (use_fault sig params) (sym (rolls-Con c args)) ∙ fold-roll-Sort (Option Flaw) (use_step sig params) (one.Con c args)

same-var-step : (sig other : Signature) (params : List Sym) (v : SVar) → use_step sig params (one.Var v) ≡ use_step other params (one.Var v)
same-var-step sig other params (Written p) = refl
same-var-step sig other params (Made n) = refl

module _ (sig other : Signature) (params : List Sym) (kept : (n : Sym) (k : ℕ) → arity_of sig n ≡ Some k → arity_of other n ≡ Some k) where
  all_kept : (args : List Sort) → AllByRecursion (λ s. use_fault sig params s ≡ None → use_fault other params s ≡ None) args → use_faults sig params args ≡ None → use_faults other params args ≡ None
  all_kept [] h e = refl
  all_kept (s ∷ ss) h e =
      let p = first_none (use_fault sig params s) (map (use_fault sig params) ss) e in
      first_of_none (use_fault other params s) (map (use_fault other params) ss) (h.0 p.0) (all_kept ss h.1 p.1)

  same_length : (args : List Sort) → length (map (use_fault sig params) args) ≡ length (map (use_fault other params) args)
  same_length [] = refl
  same_length (s ∷ ss) = let r = same_length ss in omega arith

  con_kept : (c : Sym) (args : List Sort) (o : Option ℕ) → arity_of sig c ≡ o → (use_faults sig params args ≡ None → use_faults other params args ≡ None) → constructor_fault o c (map (use_fault sig params) args) ≡ None → constructor_fault (arity_of other c) c (map (use_fault other params) args) ≡ None
  con_kept c args None e f h = absurd (cc)
  con_kept c args (Some k) e f h = ap (λ o. constructor_fault o c (map (use_fault other params) args)) (kept c k e) ∙ widths (k == length (map (use_fault sig params) args)) refl h
    where
      widths : (b : Bool) → (k == length (map (use_fault sig params) args)) ≡ b → cond b (first_fault (map (use_fault sig params) args)) (Some (Arity c)) ≡ None → cond (k == length (map (use_fault other params) args)) (first_fault (map (use_fault other params) args)) (Some (Arity c)) ≡ None
      widths true p q = ap (λ b. cond b (first_fault (map (use_fault other params) args)) (Some (Arity c))) (ap (λ n. k == n) (sym (same_length args)) ∙ p) ∙ f q
      widths false p q = absurd (cc)

  use_kept : (s : Sort) → use_fault sig params s ≡ None → use_fault other params s ≡ None
  use_kept =
      let P : Sort → Type 0 = λ s. use_fault sig params s ≡ None → use_fault other params s ≡ None in
      sort_induction P
      (λ v e. use-var other params v ∙ same-var-step other sig params v ∙ sym (use-var sig params v) ∙ e)
      (λ c args h e. use-con other params c args ∙ con_kept c args (arity_of sig c) refl (all_kept args h) (sym (use-con sig params c args) ∙ e))

  every_kept : (args : List Sort) → AllByRecursion (λ s. use_fault sig params s ≡ None → use_fault other params s ≡ None) args
  every_kept [] = tt
  every_kept (s ∷ ss) = (use_kept s, every_kept ss)

  pub uses_kept : (args : List Sort) → use_faults sig params args ≡ None → use_faults other params args ≡ None
  uses_kept args e = all_kept args (every_kept args) e

symbols-kept : (sig other : Signature) → ((n : Sym) (k : ℕ) → arity_of sig n ≡ Some k → arity_of other n ≡ Some k) → (ss : List Symbol) → AllByRecursion (IsValidSymbol sig) ss → AllByRecursion (IsValidSymbol other) ss
symbols-kept sig other kept [] h = tt
symbols-kept sig other kept (s ∷ ss) h = (
  record {
    params_differ = h.0.params_differ;
    sorts_there = uses_kept sig other s.params kept (s.args ++ s.result ∷ []) h.0.sorts_there;
    none_made = h.0.none_made;
    params_occur = h.0.params_occur;
  },
  symbols-kept sig other kept ss h.1,
)

pub sorts_keep_validity : (sig : Signature) (name : Sym) (arity : ℕ) → IsValid sig → domain_fault sig name arity ≡ None → IsValid (with_sort sig name arity)
sorts_keep_validity sig name arity h e =
    let p = first_none (fault_if (is_some (arity_of sig name)) (Redeclared name)) (fault_if (nat_lt MOST_WIDTH arity) (TooWide name) ∷ []) e in
    let new = sort-new sig.sorts name (no_fault (is_some (arity_of sig name)) (Redeclared name) p.0) in
    record {
      sorts_differ = subst AreDistinct (sym (map-both (λ e. e.0) sig.sorts ((name, arity) ∷ []))) (distinct-last (map (λ e. e.0) sig.sorts) name h.sorts_differ new);
      symbols_differ = h.symbols_differ;
      symbols = symbols-kept sig (with_sort sig name arity) (λ n k q. arity-kept sig.sorts (name, arity) n k q) sig.symbols h.symbols;
    }

all-last : (P : Symbol → Type 0) (ss : List Symbol) (s : Symbol) → AllByRecursion P ss → P s → AllByRecursion P (ss ++ s ∷ [])
all-last P [] s a p = (p, tt)
all-last P (x ∷ ss) s a p = (a.0, all-last P ss s a.1 p)

pub symbols_keep_validity : (sig : Signature) (s : Symbol) → IsValid sig → AreDistinct s.params → list_any has_made (s.args ++ s.result ∷ []) ≡ false → symbol_fault sig s.name s.params s.args s.result ≡ None → IsValid (with_symbol sig s)
symbols_keep_validity sig s h differ written e =
    let sorts = s.args ++ s.result ∷ [] in
    let loose : List (Option Flaw) = loose_faults sorts s.params ∷ [] in
    let large : List (Option Flaw) = cond (all_small sorts) None (Some SortTooLarge) ∷ loose in
    let uses : List (Option Flaw) = use_faults sig s.params sorts ∷ large in
    let wide : Option Flaw = fault_if (nat_lt MOST_WIDTH (length s.params) || nat_lt MOST_WIDTH (length s.args)) (TooWide s.name) in
    let a = first_none (fault_if (is_some (symbol_of sig s.name)) (Redeclared s.name)) (wide ∷ uses) e in
    let b = first_none wide uses a.1 in
    let c = first_none (use_faults sig s.params sorts) large b.1 in
    let d = first_none (cond (all_small sorts) None (Some SortTooLarge)) loose c.1 in
    let f = first_none (loose_faults sorts s.params) [] d.1 in
    let kept : (n : Sym) (k : ℕ) → arity_of sig n ≡ Some k → arity_of (with_symbol sig s) n ≡ Some k = λ n k q. q in
    let new = symbol-new sig.symbols s.name (no_fault (is_some (symbol_of sig s.name)) (Redeclared s.name) a.0) in
    record {
      sorts_differ = h.sorts_differ;
      symbols_differ = subst AreDistinct (sym (map-both (λ s. s.name) sig.symbols (s ∷ []))) (distinct-last (map (λ s. s.name) sig.symbols) s.name h.symbols_differ new);
      symbols = all-last (IsValidSymbol (with_symbol sig s)) sig.symbols s (symbols-kept sig (with_symbol sig s) kept sig.symbols h.symbols) (record {
        params_differ = differ;
        sorts_there = uses_kept sig (with_symbol sig s) s.params kept sorts c.0;
        none_made = written;
        params_occur = f.0;
      });
    }

pub made-con : (c : Sym) (args : List Sort) → has_made (Con c args) ≡ list_any (λ b. b) (map has_made args)
made-con c args = ap has_made (sym (rolls-Con c args)) ∙ fold-roll-Sort Bool made_step (one.Con c args)

truth_valid : (n : Sym) → IsValidSymbol initial (truth_value n)
truth_valid n = record {
  params_differ = tt;
  sorts_there = first_of_none (use_fault initial [] boolean) [] (use-con initial [] (record { 0 = 0 }) []) refl;
  none_made = or_false (has_made boolean) false (made-con (record { 0 = 0 }) []) refl;
  params_occur = refl;
}

pub initial_valid : IsValid initial
initial_valid = record {
  sorts_differ = (refl, tt);
  symbols_differ = (refl, (refl, tt));
  symbols = (truth_valid (record { 0 = 1 }), (truth_valid (record { 0 = 2 }), tt));
}

pub made-var : (v : SVar) → has_made (Var v) ≡ made_step (one.Var v)
made-var v = ap has_made (sym (rolls-Var v)) ∙ fold-roll-Sort Bool made_step (one.Var v)
