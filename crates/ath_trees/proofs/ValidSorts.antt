-- Sorts that are built of a signature's constructors, and what a declared sort is at sort arguments.
use Rattle.std.proofs.Common.{◌≡◌, ℕ, ◌==◌, ◌&&◌, ◌||◌, Bool, true, false, cond, List, [], ◌∷◌, ◌++◌, length, map, Option, Some, None, refl, sym, ◌∙◌, ap, subst, arith}
use Rattle.std.specs.Prelude.{zip}
use Rattle.std.specs.List.{list_all, list_any, AllByRecursion}
use Rattle.ath_sorts.specs.declared.sorts.Sym.{Sym}
use Rattle.ath_sorts.specs.declared.sorts.SVar.{SVar}
use Rattle.ath_sorts.specs.declared.sorts.SVar.TheVariants.{Written, Made}
use Rattle.ath_sorts.specs.declared.sorts.Sort.{Sort, Var, Con}
use Rattle.ath_sorts.specs.declared.sorts.Sort.TheOpen as one
use Rattle.ath_sorts.specs.declared.sorts.Sort.TheVariants.{rolls-Var, rolls-Con}
use Rattle.ath_sorts.specs.declared.sorts.Sort.TheFolds.{fold-roll-Sort}
use Rattle.ath_sorts.specs.declared.signature.Flaw.{Flaw}
use Rattle.ath_sorts.specs.declared.signature.Flaw.TheVariants.{Arity, UnknownVariable}
use Rattle.ath_sorts.specs.declared.signature.Symbol.{Symbol}
use Rattle.ath_sorts.specs.Signature.{Signature, arity_of, symbol_of, symbol_among, at_sorts}
use Rattle.ath_sorts.specs.Sorts.{image, apply_to}
use Rattle.ath_sorts.specs.Declaring.{first_fault, constructor_fault, use_step, use_fault, use_faults}
use Rattle.ath_sorts.specs.Validity.{has_made, made_step, IsValidSymbol, IsValid}
use Rattle.ath_sorts.proofs.SortLaws.{sort_induction, apply-var, apply-con}
use Rattle.ath_sorts.proofs.Bools.{and_parts, or_parts}
use Rattle.ath_sorts.proofs.ValidityLaws.{first_none, use-var, use-con, made-con, made-var}
use Rattle.ath_trees.specs.WellSorted.{has_arity, valid_step, is_valid_sort}

pub both_true : (a b : Bool) → a ≡ true → b ≡ true → (a && b) ≡ true
both_true a b p q = rw (p, q) refl

length-of-map : {A B : Type 0} (f : A → B) (xs : List A) → length (map f xs) ≡ length xs
length-of-map f [] = refl
length-of-map f (x ∷ xs) = let e = length-of-map f xs in omega arith

pub valid-var : (sig : Signature) (v : SVar) → is_valid_sort sig (Var v) ≡ true
valid-var sig v = ap (is_valid_sort sig) (sym (rolls-Var v)) ∙ fold-roll-Sort Bool (valid_step sig) (one.Var v)

all-of-map : (p : Sort → Bool) (xs : List Sort) → list_all (λ b. b) (map p xs) ≡ list_all p xs
all-of-map p [] = refl
all-of-map p (x ∷ xs) = ap (λ b. p x && b) (all-of-map p xs)

pub valid-con : (sig : Signature) (c : Sym) (args : List Sort) → is_valid_sort sig (Con c args) ≡ has_arity (arity_of sig c) (length args) && list_all (is_valid_sort sig) args
valid-con sig c args =
    ap (is_valid_sort sig) (sym (rolls-Con c args)) ∙ fold-roll-Sort Bool (valid_step sig) (one.Con c args)
    ∙ (λ i. has_arity (arity_of sig c) (length-of-map (is_valid_sort sig) args i) && all-of-map (is_valid_sort sig) args i)

module _ (sig : Signature) (f : SVar → Sort) where
  -- a valid sort is valid under a substitution by valid sorts
  module _ (ok : (v : SVar) → is_valid_sort sig (f v) ≡ true) where
    all_under : (args : List Sort) → AllByRecursion (λ s. is_valid_sort sig s ≡ true → is_valid_sort sig (apply_to f s) ≡ true) args → list_all (is_valid_sort sig) args ≡ true → list_all (is_valid_sort sig) (map (apply_to f) args) ≡ true
    all_under [] h e = refl
    all_under (s ∷ ss) h e =
        let p = and_parts (is_valid_sort sig s) (list_all (is_valid_sort sig) ss) e in
        both_true (is_valid_sort sig (apply_to f s)) (list_all (is_valid_sort sig) (map (apply_to f) ss)) (h.0 p.0) (all_under ss h.1 p.1)

    pub valid_under : (s : Sort) → is_valid_sort sig s ≡ true → is_valid_sort sig (apply_to f s) ≡ true
    valid_under =
        let P : Sort → Type 0 = λ s. is_valid_sort sig s ≡ true → is_valid_sort sig (apply_to f s) ≡ true in
        sort_induction P
        (λ v e. ap (is_valid_sort sig) (apply-var f v) ∙ ok v)
        (λ c args h e.
        let p = and_parts (has_arity (arity_of sig c) (length args)) (list_all (is_valid_sort sig) args) (sym (valid-con sig c args) ∙ e) in
        ap (is_valid_sort sig) (apply-con f c args) ∙ valid-con sig c (map (apply_to f) args)
        ∙ both_true (has_arity (arity_of sig c) (length (map (apply_to f) args))) (list_all (is_valid_sort sig) (map (apply_to f) args)) (ap (has_arity (arity_of sig c)) (length-of-map (apply_to f) args) ∙ p.0) (all_under args h p.1))

    pub valid_all_under : (args : List Sort) → list_all (is_valid_sort sig) args ≡ true → list_all (is_valid_sort sig) (map (apply_to f) args) ≡ true
    valid_all_under [] e = refl
    valid_all_under (s ∷ ss) e =
        let p = and_parts (is_valid_sort sig s) (list_all (is_valid_sort sig) ss) e in
        both_true (is_valid_sort sig (apply_to f s)) (list_all (is_valid_sort sig) (map (apply_to f) ss)) (valid_under s p.0) (valid_all_under ss p.1)

  -- a sort is valid that is valid under a substitution
  all_back : (args : List Sort) → AllByRecursion (λ s. is_valid_sort sig (apply_to f s) ≡ true → is_valid_sort sig s ≡ true) args → list_all (is_valid_sort sig) (map (apply_to f) args) ≡ true → list_all (is_valid_sort sig) args ≡ true
  all_back [] h e = refl
  all_back (s ∷ ss) h e =
      let p = and_parts (is_valid_sort sig (apply_to f s)) (list_all (is_valid_sort sig) (map (apply_to f) ss)) e in
      both_true (is_valid_sort sig s) (list_all (is_valid_sort sig) ss) (h.0 p.0) (all_back ss h.1 p.1)

  pub valid_back : (s : Sort) → is_valid_sort sig (apply_to f s) ≡ true → is_valid_sort sig s ≡ true
  valid_back =
      let P : Sort → Type 0 = λ s. is_valid_sort sig (apply_to f s) ≡ true → is_valid_sort sig s ≡ true in
      sort_induction P
      (λ v e. valid-var sig v)
      (λ c args h e.
      let p = and_parts (has_arity (arity_of sig c) (length (map (apply_to f) args))) (list_all (is_valid_sort sig) (map (apply_to f) args)) (sym (ap (is_valid_sort sig) (apply-con f c args) ∙ valid-con sig c (map (apply_to f) args)) ∙ e) in
      valid-con sig c args ∙ both_true (has_arity (arity_of sig c) (length args)) (list_all (is_valid_sort sig) args) (ap (has_arity (arity_of sig c)) (sym (length-of-map (apply_to f) args)) ∙ p.0) (all_back args h p.1))

-- ---- declared sorts
arity_given : (o : Option ℕ) (c : Sym) (faults : List (Option Flaw)) → constructor_fault o c faults ≡ None → (has_arity o (length faults) ≡ true) × (first_fault faults ≡ None)
arity_given None c faults h = absurd (cc)
arity_given (Some k) c faults h = by (k == length faults) refl h
  where
    by : (b : Bool) → (k == length faults) ≡ b → cond b (first_fault faults) (Some (Arity c)) ≡ None → ((k == length faults) ≡ true) × (first_fault faults ≡ None)
    by true e g = (e, g)
    by false e g = absurd (cc)

module _ (sig : Signature) (params : List Sym) where
  uses_valid : (args : List Sort) → AllByRecursion (λ s. use_fault sig params s ≡ None → is_valid_sort sig s ≡ true) args → first_fault (map (use_fault sig params) args) ≡ None → list_all (is_valid_sort sig) args ≡ true
  uses_valid [] h e = refl
  uses_valid (s ∷ ss) h e =
      let p = first_none (use_fault sig params s) (map (use_fault sig params) ss) e in
      both_true (is_valid_sort sig s) (list_all (is_valid_sort sig) ss) (h.0 p.0) (uses_valid ss h.1 p.1)

  pub use_valid : (s : Sort) → use_fault sig params s ≡ None → is_valid_sort sig s ≡ true
  use_valid =
      let P : Sort → Type 0 = λ s. use_fault sig params s ≡ None → is_valid_sort sig s ≡ true in
      sort_induction P
      (λ v e. valid-var sig v)
      (λ c args h e.
      let p = arity_given (arity_of sig c) c (map (use_fault sig params) args) (sym (use-con sig params c args) ∙ e) in
      valid-con sig c args ∙ both_true (has_arity (arity_of sig c) (length args)) (list_all (is_valid_sort sig) args) (ap (has_arity (arity_of sig c)) (sym (length-of-map (use_fault sig params) args)) ∙ p.0) (uses_valid args h p.1))

-- a parameter's place
written_at : (params : List Sym) (sorts : List Sort) (p : Sym) (f : SVar → Sort) → length sorts ≡ length params → list_any (λ q. q.0 == p.0) params ≡ true → apply_to f (image (zip (map (λ q. Written q) params) sorts) (Written p)) ≡ image (zip (map (λ q. Written q) params) (map (apply_to f) sorts)) (Written p)
written_at [] sorts p f l h = absurd (cc)
written_at (q ∷ qs) [] p f l h = absurd (omega arith)
written_at (q ∷ qs) (s ∷ ss) p f l h = by (q.0 == p.0) (λ e. written_at qs ss p f (omega arith) e) h
  where
    by : (b : Bool) → (list_any (λ r. r.0 == p.0) qs ≡ true → apply_to f (image (zip (map (λ r. Written r) qs) ss) (Written p)) ≡ image (zip (map (λ r. Written r) qs) (map (apply_to f) ss)) (Written p)) → (b || list_any (λ r. r.0 == p.0) qs) ≡ true → apply_to f (cond b s (image (zip (map (λ r. Written r) qs) ss) (Written p))) ≡ cond b (apply_to f s) (image (zip (map (λ r. Written r) qs) (map (apply_to f) ss)) (Written p))
    by true k e = refl
    by false k e = k e

param_given : (b : Bool) (e : Flaw) → cond b None (Some e) ≡ None → b ≡ true
param_given true e h = refl
param_given false e h = absurd (cc)

module _ (sig : Signature) (params : List Sym) (sorts : List Sort) (f : SVar → Sort) (l : length sorts ≡ length params) where
  at_var : (v : SVar) → use_step sig params (one.Var v) ≡ None → made_step (one.Var v) ≡ false → apply_to f (image (zip (map (λ q. Written q) params) sorts) v) ≡ image (zip (map (λ q. Written q) params) (map (apply_to f) sorts)) v
  at_var (Written p) e h = written_at params sorts p f l (param_given (list_any (λ q. q.0 == p.0) params) (UnknownVariable p) e)
  at_var (Made n) e h = absurd (cc)

  at_all : (args : List Sort) → AllByRecursion (λ s. use_fault sig params s ≡ None → has_made s ≡ false → apply_to f (at_sorts params sorts s) ≡ at_sorts params (map (apply_to f) sorts) s) args → first_fault (map (use_fault sig params) args) ≡ None → list_any (λ b. b) (map has_made args) ≡ false → map (apply_to f) (map (at_sorts params sorts) args) ≡ map (at_sorts params (map (apply_to f) sorts)) args
  at_all [] h e g = refl
  at_all (s ∷ ss) h e g =
      let p = first_none (use_fault sig params s) (map (use_fault sig params) ss) e in
      let q = or_parts (has_made s) (list_any (λ b. b) (map has_made ss)) g in
      let x = h.0 p.0 q.0 in
      let y = at_all ss h.1 p.1 q.1 in
      λ i. x i ∷ y i

  -- a declared sort at sorts, under a substitution
  pub at_sorts_under : (s : Sort) → use_fault sig params s ≡ None → has_made s ≡ false → apply_to f (at_sorts params sorts s) ≡ at_sorts params (map (apply_to f) sorts) s
  at_sorts_under =
      let P : Sort → Type 0 = λ s. use_fault sig params s ≡ None → has_made s ≡ false → apply_to f (at_sorts params sorts s) ≡ at_sorts params (map (apply_to f) sorts) s in
      let g : SVar → Sort = image (zip (map (λ q. Written q) params) sorts) in
      let k : SVar → Sort = image (zip (map (λ q. Written q) params) (map (apply_to f) sorts)) in
      sort_induction P
      (λ v e h. ap (apply_to f) (apply-var g v) ∙ at_var v (sym (use-var sig params v) ∙ e) (sym (made-var v) ∙ h) ∙ sym (apply-var k v))
      (λ c args h e m.
      let p = arity_given (arity_of sig c) c (map (use_fault sig params) args) (sym (use-con sig params c args) ∙ e) in
      ap (apply_to f) (apply-con g c args) ∙ apply-con f c (map (apply_to g) args) ∙ ap (Con c) (at_all args h p.1 (sym (made-con c args) ∙ m)) ∙ sym (apply-con k c args))

  pub all_at_sorts_under : (args : List Sort) → use_faults sig params args ≡ None → list_any has_made args ≡ false → map (apply_to f) (map (at_sorts params sorts) args) ≡ map (at_sorts params (map (apply_to f) sorts)) args
  all_at_sorts_under [] e g = refl
  all_at_sorts_under (s ∷ ss) e g =
      let p = first_none (use_fault sig params s) (map (use_fault sig params) ss) e in
      let q = or_parts (has_made s) (list_any has_made ss) g in
      let x = at_sorts_under s p.0 q.0 in
      let y = all_at_sorts_under ss p.1 q.1 in
      λ i. x i ∷ y i

-- the parts of a list with one more item
faults_split : (sig : Signature) (params : List Sym) (xs : List Sort) (r : Sort) → use_faults sig params (xs ++ r ∷ []) ≡ None → (use_faults sig params xs ≡ None) × (use_fault sig params r ≡ None)
faults_split sig params [] r e = (refl, (first_none (use_fault sig params r) [] e).0)
faults_split sig params (x ∷ xs) r e =
    let p = first_none (use_fault sig params x) (map (use_fault sig params) (xs ++ r ∷ [])) e in
    let q = faults_split sig params xs r p.1 in
    let z = p.0 in
    let w = q.0 in
    (rw z w, q.1)

made_split : (xs : List Sort) (r : Sort) → list_any has_made (xs ++ r ∷ []) ≡ false → (list_any has_made xs ≡ false) × (has_made r ≡ false)
made_split [] r e = (refl, (or_parts (has_made r) false e).0)
made_split (x ∷ xs) r e =
    let p = or_parts (has_made x) (list_any has_made (xs ++ r ∷ [])) e in
    let q = made_split xs r p.1 in
    let z = p.0 in
    let w = q.0 in
    (rw z w, q.1)

pub record IsGood (sig : Signature) (d : Symbol) : Type 0 where
  pub args_there : use_faults sig d.params d.args ≡ None
  pub result_there : use_fault sig d.params d.result ≡ None
  pub args_written : list_any has_made d.args ≡ false
  pub result_written : has_made d.result ≡ false

good_of : (sig : Signature) (d : Symbol) → IsValidSymbol sig d → IsGood sig d
good_of sig d h =
    let p = faults_split sig d.params d.args d.result h.sorts_there in
    let q = made_split d.args d.result h.none_made in
    record { args_there = p.0; result_there = p.1; args_written = q.0; result_written = q.1 }

among : (P : Symbol → Type 0) (ss : List Symbol) (n : Sym) (d : Symbol) → AllByRecursion P ss → symbol_among ss n ≡ Some d → P d
among P [] n d h e = absurd (cc)
among P (s ∷ ss) n d h e = by (s.name.0 == n.0) (λ f. among P ss n d h.1 f) e
  where
    by : (b : Bool) → (symbol_among ss n ≡ Some d → P d) → cond b (Some s) (symbol_among ss n) ≡ Some d → P d
    by true k f = let g : s ≡ d = cc in subst P g h.0
    by false k f = k f

pub symbol_good : (sig : Signature) (n : Sym) (d : Symbol) → IsValid sig → symbol_of sig n ≡ Some d → IsGood sig d
symbol_good sig n d h e = good_of sig d (among (IsValidSymbol sig) sig.symbols n d h.symbols e)
