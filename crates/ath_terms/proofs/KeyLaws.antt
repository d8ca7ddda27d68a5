-- Keys of variables.
use Rattle.std.proofs.Common.{◌≡◌, ℕ, Bool, true, false, ◌&&◌, ◌||◌, ◌==◌, cond, refl, ◌∷◌, [], List, Some, None, sym, ◌∙◌, ap, subst}
use Rattle.std.specs.Prelude.{find}
use Rattle.std.specs.List.{list_any}
use Rattle.std.specs.Map.{lookup}
use Rattle.ath_sorts.specs.declared.sorts.Sort.{Sort}
use Rattle.ath_sorts.specs.Equality.{same_sort}
use Rattle.ath_sorts.proofs.Bools.{and_parts, same_num, num_same, turned, true-not-false}
use Rattle.ath_sorts.proofs.SameSorts.{same_sort-true}
use Rattle.ath_sorts.proofs.Gets.{some-inj, some-not-none}
use Rattle.ath_trees.specs.declared.node.Var.{Var}
use Rattle.ath_trees.specs.Variables.{is_namesake, same_var}
use Rattle.ath_terms.specs.contracts.key.VarKeyPartialEq.TheImpl as derived_var
use Rattle.ath_terms.specs.contracts.key.NameKeyPartialEq.TheImpl as derived_name
use Rattle.ath_terms.specs.declared.key.VarKey.{VarKey}
use Rattle.ath_terms.specs.declared.key.NameKey.{NameKey}
use Rattle.ath_terms.specs.Found.{name_key, same_name_key, var_key, same_var_key}

-- ---- keys that are told as one are one
pub name_key-true : (k l : NameKey) → same_name_key k l ≡ true → k ≡ l
name_key-true k l e =
    let p = and_parts (k.name.0 == l.name.0) (k.index == l.index) e in
    let n = same_num k.name.0 l.name.0 p.0 in
    let i = same_num k.index l.index p.1 in
    λ j. record { name = record { 0 = n j }; index = i j }

pub var_key-true : (k l : VarKey) → same_var_key k l ≡ true → k ≡ l
var_key-true k l e =
    let p = and_parts (same_name_key k.namesakes l.namesakes) (k.digest == l.digest) e in
    let n = name_key-true k.namesakes l.namesakes p.0 in
    let d = same_num k.digest l.digest p.1 in
    λ j. record { namesakes = n j; digest = d j }

pub name_key-turned : (k l : NameKey) → same_name_key k l ≡ same_name_key l k
name_key-turned k l = let n = turned k.name.0 l.name.0 in let i = turned k.index l.index in λ j. n j && i j

pub var_key-turned : (k l : VarKey) → same_var_key k l ≡ same_var_key l k
var_key-turned k l = let n = name_key-turned k.namesakes l.namesakes in let d = turned k.digest l.digest in λ j. n j && d j

-- ---- the tables find keys by the equality that is derived
name-derived : (k l : NameKey) → derived_name.ghosts.eq k l ≡ same_name_key k l
name-derived k l = refl

var-derived : (k l : VarKey) → derived_var.ghosts.eq k l ≡ same_var_key k l
var-derived k l = refl

lookup_same : {K X : Type 0} (t u : K → Bool) (es : List (K × X)) → ((k : K) → t k ≡ u k) → lookup t es ≡ lookup u es
lookup_same t u [] e = refl
lookup_same t u (x ∷ es) e = λ i. cond (e x.0 i) (Some x.1) (lookup_same t u es e i)

module _ {K : Type 0} (eq same : K → K → Bool) (e : (k l : K) → eq k l ≡ same k l) where
  filed : (places more : List (K × ℕ)) (v : K) (at n : ℕ) → ((q : K) → lookup (eq q) more ≡ cond (eq v q) (Some at) (lookup (eq q) places)) → at ≡ n → (q : K) → lookup (same q) more ≡ cond (same v q) (Some n) (lookup (same q) places)
  filed places more v at n h p q =
      sym (lookup_same (eq q) (same q) more (e q)) ∙ h q
      ∙ (λ i. cond (e v q i) (Some (p i)) (lookup_same (eq q) (same q) places (e q) i))

pub var-filed : (places more : List (VarKey × ℕ)) (v : VarKey) (at n : ℕ) → ((q : VarKey) → lookup (derived_var.ghosts.eq q) more ≡ cond (derived_var.ghosts.eq v q) (Some at) (lookup (derived_var.ghosts.eq q) places)) → at ≡ n → (q : VarKey) → lookup (same_var_key q) more ≡ cond (same_var_key v q) (Some n) (lookup (same_var_key q) places)
var-filed = filed derived_var.ghosts.eq same_var_key var-derived

pub var-looked : (places : List (VarKey × ℕ)) (v : VarKey) → lookup (same_var_key v) places ≡ lookup (derived_var.ghosts.eq v) places
var-looked places v = sym (lookup_same (derived_var.ghosts.eq v) (same_var_key v) places (var-derived v))

pub name-filed : (places more : List (NameKey × ℕ)) (v : NameKey) (at n : ℕ) → ((q : NameKey) → lookup (derived_name.ghosts.eq q) more ≡ cond (derived_name.ghosts.eq v q) (Some at) (lookup (derived_name.ghosts.eq q) places)) → at ≡ n → (q : NameKey) → lookup (same_name_key q) more ≡ cond (same_name_key v q) (Some n) (lookup (same_name_key q) places)
name-filed = filed derived_name.ghosts.eq same_name_key name-derived

pub name-looked : (places : List (NameKey × ℕ)) (v k : NameKey) → k ≡ v → lookup (same_name_key v) places ≡ lookup (derived_name.ghosts.eq k) places
name-looked places v k e = sym (lookup_same (derived_name.ghosts.eq v) (same_name_key v) places (name-derived v)) ∙ ap (λ (l : NameKey). lookup (derived_name.ghosts.eq l) places) (sym e)

-- ---- one variable has one key
and_true : (a b : Bool) → a ≡ true → b ≡ true → (a && b) ≡ true
and_true a b p q = rw (p, q) refl

pub same-keys : (v w : Var) → same_var v w ≡ true → same_var_key (var_key v) (var_key w) ≡ true
same-keys v w e =
    let p = and_parts (is_namesake v w) (same_sort v.sort w.sort) e in
    let q : v.sort ≡ w.sort = same_sort-true v.sort w.sort p.1 in
    and_true (same_name_key (name_key v) (name_key w)) ((var_key v).digest == (var_key w).digest) p.0 (subst (λ (s : Sort). ((var_key v).digest == (var_key (record { name = w.name; index = w.index; sort = s })).digest) ≡ true) q (num_same (var_key v).digest))

-- a variable isn't there where its key isn't
pub no-key-no-var : (v : Var) (xs : List Var) → find (λ w. same_var_key (var_key v) (var_key w)) xs ≡ None → list_any (same_var v) xs ≡ false
no-key-no-var v [] h = refl
no-key-no-var v (x ∷ xs) h = by (same_var v x) refl (same_var_key (var_key v) (var_key x)) refl h (no-key-no-var v xs)
  where
    by : (b : Bool) → same_var v x ≡ b → (c : Bool) → same_var_key (var_key v) (var_key x) ≡ c → cond c (Some x) (find (λ w. same_var_key (var_key v) (var_key w)) xs) ≡ None → (find (λ w. same_var_key (var_key v) (var_key w)) xs ≡ None → list_any (same_var v) xs ≡ false) → (b || list_any (same_var v) xs) ≡ false
    by b e true f h more = absurd (some-not-none x h)
    by true e false f h more = absurd (true-not-false (sym (same-keys v x e) ∙ f))
    by false e false f h more = more h

-- the first of a key, where it is the variable
pub key-is-var : (v w : Var) (xs : List Var) → find (λ x. same_var_key (var_key v) (var_key x)) xs ≡ Some w → same_var v w ≡ true → list_any (same_var v) xs ≡ true
key-is-var v w [] h e = absurd (some-not-none w (sym h))
key-is-var v w (x ∷ xs) h e = by (same_var v x) refl (same_var_key (var_key v) (var_key x)) h (λ g. key-is-var v w xs g e)
  where
    by : (b : Bool) → same_var v x ≡ b → (c : Bool) → cond c (Some x) (find (λ y. same_var_key (var_key v) (var_key y)) xs) ≡ Some w → (find (λ y. same_var_key (var_key v) (var_key y)) xs ≡ Some w → list_any (same_var v) xs ≡ true) → (b || list_any (same_var v) xs) ≡ true
    by true f c h more = refl
    by false f true h more = absurd (true-not-false (sym e ∙ ap (same_var v) (sym (some-inj x w h)) ∙ f))
    by false f false h more = more h
