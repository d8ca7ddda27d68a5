-- Names that join a signature, one after the other.
use Rattle.std.proofs.Common.{◌≡◌, ℕ, ◌<◌, ◌+◌, ◌==◌, ◌||◌, Bool, true, false, List, [], ◌∷◌, ◌++◌, length, get_or, take, drop, Option, Some, None, Result, Ok, Err, is_some, is_ok, cond, refl, sym, ◌∙◌, ap, subst, add-one, drop-cons, nat_lt, arith, is_err}
use Rattle.std.proofs.lemmas.List.{take_more}
use Rattle.ath_sorts.specs.declared.limits.TheConstants.{MOST_WIDTH}
use Rattle.ath_sorts.specs.declared.signature.Flaw.{Flaw}
use Rattle.ath_sorts.specs.declared.signature.Flaw.TheVariants.{Redeclared, TooWide, SortTooLarge}
use Rattle.ath_sorts.specs.declared.signature.SigError.{SigError}
use Rattle.ath_sorts.specs.declared.sorts.Sym.{Sym}
use Rattle.ath_sorts.specs.declared.signature.Symbol.{Symbol}
use Rattle.ath_sorts.specs.declared.sorts.Sort.{Sort}
use Rattle.ath_sorts.specs.Signature.{Signature, symbol_among, symbol_of}
use Rattle.ath_sorts.specs.Declaring.{first_fault, fault_if, use_faults, all_small, loose_faults, symbol_fault, with_symbol}
use Rattle.ath_sorts.specs.Answers.{MatchFault}
use Rattle.ath_sorts.proofs.Bools.{turned, or-false}
use Rattle.ath_sorts.proofs.ValidityLaws.{uses_kept}
use Rattle.ath_declarations.specs.declared.declaring.DeclareError.{DeclareError}
use Rattle.ath_declarations.specs.declared.declaring.DeclareError.TheVariants.{Flawed}
use Rattle.ath_declarations.specs.Declarations.{with_symbols}
use Rattle.ath_declarations.specs.Steps.{has_name, first_taken, MatchTest}
use Rattle.ath_declarations.specs.Texts.{unless}

-- ---- a symbol that isn't refused
pub first_none : (f : Option Flaw) (fs : List (Option Flaw)) → first_fault (f ∷ fs) ≡ None → (f ≡ None) × (first_fault fs ≡ None)
first_none None fs h = (refl, h)
first_none (Some e) fs h = absurd (cc)

pub no_fault : (b : Bool) (e : Flaw) → fault_if b e ≡ None → b ≡ false
no_fault true e h = absurd (cc)
no_fault false e h = refl

module _ (params : List Sym) (args : List Sort) (result : Sort) where
  abbrev sorts : List Sort
  sorts = args ++ result ∷ []

  abbrev wide : Bool
  wide = nat_lt MOST_WIDTH (length params) || nat_lt MOST_WIDTH (length args)

  abbrev large : Option Flaw
  large = cond (all_small sorts) None (Some SortTooLarge)

  -- the tests that don't speak of the name pass
  pub record Passes (sig : Signature) : Type 0 where
    pub width : wide ≡ false
    uses : use_faults sig params sorts ≡ None
    size : large ≡ None
    loose : loose_faults sorts params ≡ None

  pub passes : (sig : Signature) (n : Sym) → symbol_fault sig n params args result ≡ None → Passes sig
  passes sig n h =
      let a = first_none (fault_if (is_some (symbol_of sig n)) (Redeclared n)) (fault_if wide (TooWide n) ∷ use_faults sig params sorts ∷ large ∷ loose_faults sorts params ∷ []) h in
      let b = first_none (fault_if wide (TooWide n)) (use_faults sig params sorts ∷ large ∷ loose_faults sorts params ∷ []) a.1 in
      let c = first_none (use_faults sig params sorts) (large ∷ loose_faults sorts params ∷ []) b.1 in
      let d = first_none large (loose_faults sorts params ∷ []) c.1 in
      let f = first_none (loose_faults sorts params) [] d.1 in
      record { width = no_fault wide (TooWide n) b.0; uses = c.0; size = d.0; loose = f.0 }

  pub name_free : (sig : Signature) (n : Sym) → symbol_fault sig n params args result ≡ None → is_some (symbol_of sig n) ≡ false
  name_free sig n h = no_fault (is_some (symbol_of sig n)) (Redeclared n) (first_none (fault_if (is_some (symbol_of sig n)) (Redeclared n)) (fault_if wide (TooWide n) ∷ use_faults sig params sorts ∷ large ∷ loose_faults sorts params ∷ []) h).0

  abbrev named : Sym → Symbol
  named n = record { name = n; params = params; args = args; result = result }

  still : (sig : Signature) (s : Symbol) → Passes sig → Passes (with_symbol sig s)
  still sig s p = record { width = p.width; uses = uses_kept sig (with_symbol sig s) params (λ n k q. q) sorts p.uses; size = p.size; loose = p.loose }

  -- then a name is refused exactly where it is taken
  name_fault : (sig : Signature) (n : Sym) → Passes sig → symbol_fault sig n params args result ≡ fault_if (is_some (symbol_of sig n)) (Redeclared n)
  name_fault sig n p =
      let w = p.width in let u = p.uses in let z = p.size in let l = p.loose in
      let e : symbol_fault sig n params args result ≡ first_fault (fault_if (is_some (symbol_of sig n)) (Redeclared n) ∷ None ∷ None ∷ None ∷ None ∷ []) = λ i. first_fault (fault_if (is_some (symbol_of sig n)) (Redeclared n) ∷ fault_if (w i) (TooWide n) ∷ u i ∷ z i ∷ l i ∷ []) in
      e ∙ only (fault_if (is_some (symbol_of sig n)) (Redeclared n))
    where
      only : (f : Option Flaw) → first_fault (f ∷ None ∷ None ∷ None ∷ None ∷ []) ≡ f
      only None = refl
      only (Some e) = refl

  -- ---- which name is taken
  or_assoc : (a b c : Bool) → ((a || b) || c) ≡ (a || (b || c))
  or_assoc true b c = refl
  or_assoc false b c = refl

  among_more : (ss : List Symbol) (t : Symbol) (n : Sym) → is_some (symbol_among (ss ++ t ∷ []) n) ≡ (is_some (symbol_among ss n) || (t.name.0 == n.0))
  among_more [] t n = by (t.name.0 == n.0)
    where
      by : (b : Bool) → is_some (cond b (Some t) None) ≡ b
      by true = refl
      by false = refl
  among_more (s ∷ ss) t n = by (s.name.0 == n.0) (among_more ss t n)
    where
      by : (b : Bool) → is_some (symbol_among (ss ++ t ∷ []) n) ≡ (is_some (symbol_among ss n) || (t.name.0 == n.0)) → is_some (cond b (Some s) (symbol_among (ss ++ t ∷ []) n)) ≡ (is_some (cond b (Some s) (symbol_among ss n)) || (t.name.0 == n.0))
      by true e = refl
      by false e = e

  has_last : (names : List Sym) (m n : Sym) → has_name (names ++ m ∷ []) n ≡ (has_name names n || (n.0 == m.0))
  has_last [] m n = or-false (n.0 == m.0)
  has_last (x ∷ names) m n = ap (λ b. n.0 == x.0 || b) (has_last names m n) ∙ sym (or_assoc (n.0 == x.0) (has_name names n) (n.0 == m.0))

  -- the outcome of a declaration, told by the name that is taken
  abbrev pub Tells : Option Sym → Result Signature Flaw → Type 0
  Tells None outcome = is_ok outcome ≡ true
  Tells (Some n) outcome = outcome ≡ Err (Redeclared n)

  module _ (first : Signature) where
    -- the second signature has the symbols of the first, and those of the names that were seen
    abbrev Sees : Signature → List Sym → Type 0
    Sees sig seen = (n : Sym) → is_some (symbol_of sig n) ≡ (is_some (symbol_of first n) || has_name seen n)

    sees_more : (sig : Signature) (seen : List Sym) (m : Sym) → Sees sig seen → Sees (with_symbol sig (named m)) (seen ++ m ∷ [])
    sees_more sig seen m h n =
        among_more sig.symbols (named m) n
        ∙ ap (λ b. b || (m.0 == n.0)) (h n)
        ∙ or_assoc (is_some (symbol_of first n)) (has_name seen n) (m.0 == n.0)
        ∙ ap (λ b. is_some (symbol_of first n) || (has_name seen n || b)) (turned m.0 n.0)
        ∙ ap (λ b. is_some (symbol_of first n) || b) (sym (has_last seen m n))

    taken_tells : (names seen : List Sym) (sig : Signature) → Sees sig seen → Passes sig → Tells (first_taken first seen names) (with_symbols sig names params args result)
    taken_tells [] seen sig h p = refl
    taken_tells (n ∷ names) seen sig h p = subst (λ f. Tells (first_taken first seen (n ∷ names)) (unless f rest)) (sym (name_fault sig n p)) (by (is_some (symbol_of sig n)) (sym (h n)) (taken_tells names (seen ++ n ∷ []) (with_symbol sig (named n)) (sees_more sig seen n h) (still sig (named n) p)))
      where
        rest : Result Signature Flaw
        rest = with_symbols (with_symbol sig (named n)) names params args result

        by : (b : Bool) → (is_some (symbol_of first n) || has_name seen n) ≡ b → Tells (first_taken first (seen ++ n ∷ []) names) rest → Tells (first_taken first seen (n ∷ names)) (unless (fault_if b (Redeclared n)) rest)
        by true e r = subst (λ b. Tells (cond b (Some n) (first_taken first (seen ++ n ∷ []) names)) (Err (Redeclared n))) (sym e) refl
        by false e r = subst (λ b. Tells (cond b (Some n) (first_taken first (seen ++ n ∷ []) names)) rest) (sym e) r

    all_tested : (n : Sym) (names : List Sym) → symbol_fault first n params args result ≡ None → Tells (first_taken first [] (n ∷ names)) (with_symbols first (n ∷ names) params args result)
    all_tested n names h = taken_tells (n ∷ names) [] first (λ n. sym (or-false (is_some (symbol_of first n)))) (passes first n h)

  pub tested : (sig : Signature) (names : List Sym) (d : Sym) → 0 < length names → symbol_fault sig (get_or names 0 d) params args result ≡ None → Tells (first_taken sig [] names) (with_symbols sig names params args result)
  tested sig [] d h f = absurd (omega arith)
  tested sig (n ∷ names) d h f = all_tested sig n names f

  pub first_refused : (sig : Signature) (names : List Sym) (d : Sym) (e : Flaw) → 0 < length names → symbol_fault sig (get_or names 0 d) params args result ≡ Some e → with_symbols sig names params args result ≡ Err e
  first_refused sig [] d e h f = absurd (omega arith)
  first_refused sig (n ∷ names) d e h f = ap (λ f. unless f (with_symbols (with_symbol sig (named n)) names params args result)) f

  -- ---- the names join
  -- the first few have joined, and the others join that signature
  pub record JoinsTo (old : Signature) (names : List Sym) (k : ℕ) (sig : Signature) : Type 0 where
    pub done : with_symbols old (take k names) params args result ≡ Ok sig
    pub rest : with_symbols sig (drop k names) params args result ≡ with_symbols old names params args result

  joined_last : (names : List Sym) (old sig : Signature) (n : Sym) → with_symbols old names params args result ≡ Ok sig → symbol_fault sig n params args result ≡ None → with_symbols old (names ++ n ∷ []) params args result ≡ Ok (with_symbol sig (named n))
  joined_last [] old sig n e f =
      let s : old ≡ sig = cc in
      ap (λ (s : Signature). unless (symbol_fault s n params args result) (Ok (with_symbol s (named n)))) s ∙ ap (λ f. unless f (Ok (with_symbol sig (named n)))) f
  joined_last (m ∷ names) old sig n e f = by (symbol_fault old m params args result) e (λ e. joined_last names (with_symbol old (named m)) sig n e f)
    where
      by : (g : Option Flaw) → unless g (with_symbols (with_symbol old (named m)) names params args result) ≡ Ok sig → (with_symbols (with_symbol old (named m)) names params args result ≡ Ok sig → with_symbols (with_symbol old (named m)) (names ++ n ∷ []) params args result ≡ Ok (with_symbol sig (named n))) → unless g (with_symbols (with_symbol old (named m)) (names ++ n ∷ []) params args result) ≡ Ok (with_symbol sig (named n))
      by None e r = r e
      by (Some x) e r = absurd (cc)

  module _ (old : Signature) (names : List Sym) (k : ℕ) (d : Sym) (sig : Signature) (lt : k < length names) (j : JoinsTo old names k sig) where
    abbrev here : Sym
    here = get_or names k d

    unfolded : with_symbols sig (drop k names) params args result ≡ unless (symbol_fault sig here params args result) (with_symbols (with_symbol sig (named here)) (drop (k + 1) names) params args result)
    unfolded =
        let r : drop k names ≡ here ∷ drop (k + 1) names = rw add-one (drop-cons names k d lt) in
        ap (λ ns. with_symbols sig ns params args result) r

    pub joins_next : (new : Signature) → new ≡ with_symbol sig (named here) → symbol_fault sig here params args result ≡ None → JoinsTo old names (k + 1) new
    joins_next new e f = subst (JoinsTo old names (k + 1)) (sym e) (record {
      done = ap (λ ns. with_symbols old ns params args result) (take_more names k d lt) ∙ joined_last (take k names) old sig here j.done f;
      rest = sym (ap (λ f. unless f (with_symbols (with_symbol sig (named here)) (drop (k + 1) names) params args result)) f) ∙ sym unfolded ∙ j.rest;
    })

-- what a symbol that was added tells
pub added_by : (a : Result (Unit {0}) SigError) (f : Option Flaw) (new grown sig : Signature) → is_err a ≡ false → MatchFault f a → new ≡ cond (is_ok a) grown sig → (f ≡ None) × (new ≡ grown)
added_by (Ok u) f new grown sig h m e = (m, e)
added_by (Err x) f new grown sig h m e = absurd (cc)

-- an error that a test hands on
pub test_refused : (outcome : Result Signature Flaw) (a : Result (Unit {0}) DeclareError) (f : Flaw) → a ≡ Err (Flawed f) → outcome ≡ Err f → MatchTest outcome a
test_refused outcome a f is h = subst (MatchTest outcome) (sym is) h
