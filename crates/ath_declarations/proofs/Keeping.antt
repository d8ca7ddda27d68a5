-- What is declared is there, what was there stays, and a signature stays valid.
use Rattle.std.proofs.Common.{◌≡◌, ℕ, ◌==◌, Bool, true, false, cond, List, [], ◌∷◌, ◌++◌, length, map, Option, Some, None, is_some, option_map, nat_lt, Result, Ok, refl, sym, ◌∙◌, ap, subst}
use Rattle.std.specs.Prelude.{IfSome}
use Rattle.std.specs.List.{list_any, flat_map, AllByRecursion}
use Rattle.ath_sorts.specs.declared.signature.Flaw.{Flaw}
use Rattle.ath_sorts.specs.declared.signature.Symbol.{Symbol}
use Rattle.ath_sorts.specs.declared.sorts.Sort.{Sort}
use Rattle.ath_sorts.specs.declared.sorts.Sym.{Sym}
use Rattle.ath_sorts.specs.declared.signature.Flaw.TheVariants.{Redeclared, TooWide, SortTooLarge}
use Rattle.ath_sorts.specs.declared.limits.TheConstants.{MOST_WIDTH}
use Rattle.ath_sorts.specs.Declaring.{error_of, fault_if, use_fault, domain_fault, symbol_fault, with_sort, with_symbol}
use Rattle.ath_sorts.specs.Sorts.{is_small}
use Rattle.ath_sorts.specs.Signature.{Signature, arity_among, symbol_among, arity_of, symbol_of}
use Rattle.ath_sorts.specs.Validity.{AreDistinct, has_made, IsValid}
use Rattle.ath_sorts.proofs.Bools.{true-not-false, num_same}
use Rattle.ath_sorts.proofs.ValidityLaws as law
use Rattle.ath_syntax.specs.declared.node.SortText.{SortText}
use Rattle.ath_declarations.specs.Declarations.{domain_declared, params_of, with_symbols, declared}
use Rattle.ath_declarations.specs.Laws.{IsMeant, IsThere, Keeps}
use Rattle.ath_declarations.specs.Texts.{sort_of, written_in, unless, text_fault, meaning}
use Rattle.ath_declarations.proofs.Joins.{first_none, no_fault, name_free}
use Rattle.ath_declarations.proofs.Names.{firsts_differ}
use Rattle.ath_declarations.proofs.TextLaws.{none_made, spelled_none_made}

pub unless_ok : {A E : Type 0} (f : Option E) (o : Result A E) (x : A) → unless f o ≡ Ok x → (f ≡ None) × (o ≡ Ok x)
unless_ok None o x h = (refl, h)
unless_ok (Some e) o x h = absurd (cc)

pub ok_is : {A E : Type 0} (x y : A) → ◌≡◌ {A = Result A E} (Ok x) (Ok y) → x ≡ y
ok_is x y e = cc

-- ---- what a text means
unmapped : (o : Option Flaw) → option_map error_of o ≡ None → o ≡ None
unmapped None h = refl
unmapped (Some f) h = absurd (cc)

no_limit : (b : Bool) (e : Flaw) → cond b None (Some e) ≡ None → b ≡ true
no_limit true e h = refl
no_limit false e h = absurd (cc)

pub meant_sort : (sig : Signature) (t : SortText) (s : Sort) → meaning sig t ≡ Ok s → IsMeant sig s
meant_sort sig t s h =
    let u = sort_of t in
    let e = unless_ok (option_map error_of (text_fault sig u)) (Ok u) s h in
    let a = first_none (use_fault sig (written_in u) u) (cond (is_small u) None (Some SortTooLarge) ∷ []) (unmapped (text_fault sig u) e.0) in
    let b = first_none (cond (is_small u) None (Some SortTooLarge)) [] a.1 in
    subst (IsMeant sig) (ok_is u s e.1) (record { there = a.0; small = no_limit (is_small u) SortTooLarge b.0; none_made = none_made t })

-- ---- what was there
found_still : {A : Type 0} (b : Bool) (x a : A) (o p : Option A) → (o ≡ Some a → p ≡ Some a) → cond b (Some x) o ≡ Some a → cond b (Some x) p ≡ Some a
found_still true x a o p f h = h
found_still false x a o p f h = f h

arity_still : (es : List (Sym × ℕ)) (e : Sym × ℕ) (n : Sym) (k : ℕ) → arity_among es n ≡ Some k → arity_among (es ++ e ∷ []) n ≡ Some k
arity_still [] e n k h = absurd (cc)
arity_still (x ∷ es) e n k h = found_still (x.0.0 == n.0) x.1 k (arity_among es n) (arity_among (es ++ e ∷ []) n) (arity_still es e n k) h

symbol_still : (ss : List Symbol) (t : Symbol) (n : Sym) (s : Symbol) → symbol_among ss n ≡ Some s → symbol_among (ss ++ t ∷ []) n ≡ Some s
symbol_still [] t n s h = absurd (cc)
symbol_still (x ∷ ss) t n s h = found_still (x.name.0 == n.0) x s (symbol_among ss n) (symbol_among (ss ++ t ∷ []) n) (symbol_still ss t n s) h

kept_itself : (sig : Signature) → Keeps sig sig
kept_itself sig = record { sorts = λ c n h. h; symbols = λ f s h. h }

kept_on : (a b c : Signature) → Keeps a b → Keeps b c → Keeps a c
kept_on a b c k l = record { sorts = λ x n h. l.sorts x n (k.sorts x n h); symbols = λ f s h. l.symbols f s (k.symbols f s h) }

pub domain_keeps : (old new : Signature) (name : Sym) (vars : List Sym) → domain_declared old name vars ≡ Ok new → Keeps old new
domain_keeps old new name vars h =
    let e = unless_ok (domain_fault old name (length vars)) (Ok (with_sort old name (length vars))) new h in
    subst (Keeps old) (ok_is _ _ e.1) (record { sorts = λ c n k. arity_still old.sorts (name, length vars) c n k; symbols = λ f s k. k })

-- ---- what is new
arity_new : (es : List (Sym × ℕ)) (n : Sym) (k : ℕ) → is_some (arity_among es n) ≡ false → arity_among (es ++ (n, k) ∷ []) n ≡ Some k
arity_new [] n k h = ap (λ b. cond b (Some k) None) (num_same n.0)
arity_new (e ∷ es) n k h = by (e.0.0 == n.0) h (arity_new es n k)
  where
    by : (b : Bool) → is_some (cond b (Some e.1) (arity_among es n)) ≡ false → (is_some (arity_among es n) ≡ false → arity_among (es ++ (n, k) ∷ []) n ≡ Some k) → cond b (Some e.1) (arity_among (es ++ (n, k) ∷ []) n) ≡ Some k
    by true h r = absurd (true-not-false h)
    by false h r = r h

symbol_new : (ss : List Symbol) (t : Symbol) → is_some (symbol_among ss t.name) ≡ false → symbol_among (ss ++ t ∷ []) t.name ≡ Some t
symbol_new [] t h = ap (λ b. cond b (Some t) None) (num_same t.name.0)
symbol_new (s ∷ ss) t h = by (s.name.0 == t.name.0) h (symbol_new ss t)
  where
    by : (b : Bool) → is_some (cond b (Some s) (symbol_among ss t.name)) ≡ false → (is_some (symbol_among ss t.name) ≡ false → symbol_among (ss ++ t ∷ []) t.name ≡ Some t) → cond b (Some s) (symbol_among (ss ++ t ∷ []) t.name) ≡ Some t
    by true h r = absurd (true-not-false h)
    by false h r = r h

pub domain_there : (old new : Signature) (name : Sym) (vars : List Sym) → domain_declared old name vars ≡ Ok new → arity_of new name ≡ Some (length vars)
domain_there old new name vars h =
    let e = unless_ok (domain_fault old name (length vars)) (Ok (with_sort old name (length vars))) new h in
    let a = first_none (fault_if (is_some (arity_of old name)) (Redeclared name)) (fault_if (nat_lt MOST_WIDTH (length vars)) (TooWide name) ∷ []) e.0 in
    ap (λ (s : Signature). arity_of s name) (sym (ok_is _ _ e.1)) ∙ arity_new old.sorts name (length vars) (no_fault (is_some (arity_of old name)) (Redeclared name) a.0)

module _ (params : List Sym) (args : List Sort) (result : Sort) where
  abbrev named : Sym → Symbol
  named n = record { name = n; params = params; args = args; result = result }

  joined_keeps : (names : List Sym) (old new : Signature) → with_symbols old names params args result ≡ Ok new → Keeps old new
  joined_keeps [] old new h = subst (Keeps old) (ok_is old new h) (kept_itself old)
  joined_keeps (n ∷ names) old new h =
      let e = unless_ok (symbol_fault old n params args result) (with_symbols (with_symbol old (named n)) names params args result) new h in
      kept_on old (with_symbol old (named n)) new
      (record { sorts = λ c n k. k; symbols = λ f s k. symbol_still old.symbols (named n) f s k })
      (joined_keeps names (with_symbol old (named n)) new e.1)

  joined_there : (names : List Sym) (old new : Signature) → with_symbols old names params args result ≡ Ok new → AllByRecursion (λ n. symbol_of new n ≡ Some (named n)) names
  joined_there [] old new h = tt
  joined_there (n ∷ names) old new h =
      let e = unless_ok (symbol_fault old n params args result) (with_symbols (with_symbol old (named n)) names params args result) new h in
      let k = joined_keeps names (with_symbol old (named n)) new e.1 in
      (k.symbols n (named n) (symbol_new old.symbols (named n) (name_free params args result old n e.0)), joined_there names (with_symbol old (named n)) new e.1)

  joined_valid : (names : List Sym) (old new : Signature) → AreDistinct params → list_any has_made (args ++ result ∷ []) ≡ false → IsValid old → with_symbols old names params args result ≡ Ok new → IsValid new
  joined_valid [] old new d w v h = subst IsValid (ok_is old new h) v
  joined_valid (n ∷ names) old new d w v h =
      let e = unless_ok (symbol_fault old n params args result) (with_symbols (with_symbol old (named n)) names params args result) new h in
      joined_valid names (with_symbol old (named n)) new d w (law.symbols_keep_validity old (named n) v d w e.0) e.1

pub symbols_keep : (old new : Signature) (names : List Sym) (list : Option (List Sym)) (args : List SortText) (result : SortText) → declared old names list args result ≡ Ok new → Keeps old new
symbols_keep old new names list args result h = joined_keeps (params_of list (map sort_of args ++ sort_of result ∷ [])) (map sort_of args) (sort_of result) names old new h

pub symbols_there : (old new : Signature) (names : List Sym) (list : Option (List Sym)) (args : List SortText) (result : SortText) → declared old names list args result ≡ Ok new → AllByRecursion (IsThere new list args result) names
symbols_there old new names list args result h = joined_there (params_of list (map sort_of args ++ sort_of result ∷ [])) (map sort_of args) (sort_of result) names old new h

-- ---- validity
pub domain_valid : (old new : Signature) (name : Sym) (vars : List Sym) → IsValid old → domain_declared old name vars ≡ Ok new → IsValid new
domain_valid old new name vars v h =
    let e = unless_ok (domain_fault old name (length vars)) (Ok (with_sort old name (length vars))) new h in
    subst IsValid (ok_is _ _ e.1) (law.sorts_keep_validity old name (length vars) v e.0)

params_differ : (list : Option (List Sym)) (sorts : List Sort) → IfSome list AreDistinct → AreDistinct (params_of list sorts)
params_differ (Some params) sorts d = d
params_differ None sorts d = firsts_differ (flat_map written_in sorts)

pub symbols_valid : (old new : Signature) (names : List Sym) (list : Option (List Sym)) (args : List SortText) (result : SortText) → IsValid old → IfSome list AreDistinct → declared old names list args result ≡ Ok new → IsValid new
symbols_valid old new names list args result v d h =
    let sorts = map sort_of args ++ sort_of result ∷ [] in
    joined_valid (params_of list sorts) (map sort_of args) (sort_of result) names old new (params_differ list sorts d) (spelled_none_made args result) v h
